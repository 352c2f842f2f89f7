-- What readings measure, by name.
use Rattle.std.specs.Prelude.{ℕ, List, [], ◌∷◌, codes}
use Rattle.ocpp_types.specs.declared.measurand.Measurand.{Measurand}
use Rattle.ocpp_types.specs.declared.measurand.Measurand.TheVariants.{CurrentExport, CurrentImport, CurrentOffered, EnergyActiveExportRegister, EnergyActiveImportRegister, EnergyReactiveExportRegister, EnergyReactiveImportRegister, EnergyActiveExportInterval, EnergyActiveImportInterval, EnergyReactiveExportInterval, EnergyReactiveImportInterval, Frequency, PowerActiveExport, PowerActiveImport, PowerFactor, PowerOffered, PowerReactiveExport, PowerReactiveImport, RPM, SoC, Temperature, Voltage}
use Rattle.ocpp_types.specs.Named.{names_of}

abbrev pub measurand_name : Measurand → List ℕ
measurand_name CurrentExport = codes "Current.Export"
measurand_name CurrentImport = codes "Current.Import"
measurand_name CurrentOffered = codes "Current.Offered"
measurand_name EnergyActiveExportRegister = codes "Energy.Active.Export.Register"
measurand_name EnergyActiveImportRegister = codes "Energy.Active.Import.Register"
measurand_name EnergyReactiveExportRegister = codes "Energy.Reactive.Export.Register"
measurand_name EnergyReactiveImportRegister = codes "Energy.Reactive.Import.Register"
measurand_name EnergyActiveExportInterval = codes "Energy.Active.Export.Interval"
measurand_name EnergyActiveImportInterval = codes "Energy.Active.Import.Interval"
measurand_name EnergyReactiveExportInterval = codes "Energy.Reactive.Export.Interval"
measurand_name EnergyReactiveImportInterval = codes "Energy.Reactive.Import.Interval"
measurand_name Frequency = codes "Frequency"
measurand_name PowerActiveExport = codes "Power.Active.Export"
measurand_name PowerActiveImport = codes "Power.Active.Import"
measurand_name PowerFactor = codes "Power.Factor"
measurand_name PowerOffered = codes "Power.Offered"
measurand_name PowerReactiveExport = codes "Power.Reactive.Export"
measurand_name PowerReactiveImport = codes "Power.Reactive.Import"
measurand_name RPM = codes "RPM"
measurand_name SoC = codes "SoC"
measurand_name Temperature = codes "Temperature"
measurand_name Voltage = codes "Voltage"

abbrev pub measurands : List (List ℕ × Measurand)
measurands = names_of measurand_name (CurrentExport ∷ CurrentImport ∷ CurrentOffered ∷ EnergyActiveExportRegister ∷ EnergyActiveImportRegister ∷ EnergyReactiveExportRegister ∷ EnergyReactiveImportRegister ∷ EnergyActiveExportInterval ∷ EnergyActiveImportInterval ∷ EnergyReactiveExportInterval ∷ EnergyReactiveImportInterval ∷ Frequency ∷ PowerActiveExport ∷ PowerActiveImport ∷ PowerFactor ∷ PowerOffered ∷ PowerReactiveExport ∷ PowerReactiveImport ∷ RPM ∷ SoC ∷ Temperature ∷ Voltage ∷ [])
