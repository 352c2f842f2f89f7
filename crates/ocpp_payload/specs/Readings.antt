-- Readings of a meter: their members, and what is made of them.
use Rattle.std.specs.Prelude.{codes, Result, Ok}
use Rattle.serde_json.specs.Data.{Data}
use Rattle.ocpp_types.specs.ReadingContext.{reading_contexts}
use Rattle.ocpp_types.specs.ValueFormat.{value_formats}
use Rattle.ocpp_types.specs.Measurand.{measurands}
use Rattle.ocpp_types.specs.Phase.{phases}
use Rattle.ocpp_types.specs.Location.{locations}
use Rattle.ocpp_types.specs.UnitOfMeasure.{units_of_measure}
use Rattle.ocpp_types.specs.declared.reading_context.ReadingContext.TheVariants as context
use Rattle.ocpp_types.specs.declared.value_format.ValueFormat.TheVariants as format
use Rattle.ocpp_types.specs.declared.measurand.Measurand.TheVariants as measurand
use Rattle.ocpp_types.specs.declared.location.Location.TheVariants as location
use Rattle.ocpp_payload.specs.declared.fault.FieldFault.{FieldFault}
use Rattle.ocpp_types.specs.declared.sampled_value.SampledValue.{SampledValue}
use Rattle.ocpp_payload.specs.declared.readings.MeterValue.{MeterValue}
use Rattle.ocpp_payload.specs.Kind.{◌>>=◌, any_text, choice, time}
use Rattle.ocpp_payload.specs.Fields.{required, optional, with_default}
use Rattle.ocpp_payload.specs.Lists.{object_of, some_of}

abbrev pub sampled_value : Data → Result SampledValue FieldFault
sampled_value d = do
  value ← required any_text (codes "value") d
  context ← with_default context.SamplePeriodic (choice reading_contexts) (codes "context") d
  format ← with_default format.Raw (choice value_formats) (codes "format") d
  measurand ← with_default measurand.EnergyActiveImportRegister (choice measurands) (codes "measurand") d
  phase ← optional (choice phases) (codes "phase") d
  location ← with_default location.Outlet (choice locations) (codes "location") d
  unit ← optional (choice units_of_measure) (codes "unit") d
  Ok (record { value = value; context = context; format = format; measurand = measurand; phase = phase; location = location; unit = unit })

abbrev pub meter_value : Data → Result MeterValue FieldFault
meter_value d = do
  timestamp ← required time (codes "timestamp") d
  sampled ← required (some_of (object_of sampled_value)) (codes "sampledValue") d
  Ok (record { timestamp = timestamp; sampled_value = sampled })
