-- When a reading was taken, by name.
use Rattle.std.specs.Prelude.{ℕ, List, [], ◌∷◌, codes}
use Rattle.ocpp_types.specs.declared.reading_context.ReadingContext.{ReadingContext}
use Rattle.ocpp_types.specs.declared.reading_context.ReadingContext.TheVariants.{InterruptionBegin, InterruptionEnd, Other, SampleClock, SamplePeriodic, TransactionBegin, TransactionEnd, Trigger}
use Rattle.ocpp_types.specs.Named.{names_of}

abbrev pub reading_context_name : ReadingContext → List ℕ
reading_context_name InterruptionBegin = codes "Interruption.Begin"
reading_context_name InterruptionEnd = codes "Interruption.End"
reading_context_name Other = codes "Other"
reading_context_name SampleClock = codes "Sample.Clock"
reading_context_name SamplePeriodic = codes "Sample.Periodic"
reading_context_name TransactionBegin = codes "Transaction.Begin"
reading_context_name TransactionEnd = codes "Transaction.End"
reading_context_name Trigger = codes "Trigger"

abbrev pub reading_contexts : List (List ℕ × ReadingContext)
reading_contexts = names_of reading_context_name (InterruptionBegin ∷ InterruptionEnd ∷ Other ∷ SampleClock ∷ SamplePeriodic ∷ TransactionBegin ∷ TransactionEnd ∷ Trigger ∷ [])
