-- How a store tells a fault of the database.
use Rattle.sqlite.specs.declared.error.Error.{Error}
use Rattle.sqlite.specs.declared.error.Error.TheVariants.{SqliteFailure}
use Rattle.sqlite.specs.declared.error.ErrorCode.TheVariants.{OperationInterrupted, OutOfMemory}
use Rattle.hub_rows.specs.declared.store.StoreFault.{StoreFault}
use Rattle.hub_rows.specs.declared.store.StoreFault.TheVariants.{NoMemory, Failed, TooLong}

-- want of memory is told as such, and a query that takes more steps than it may; every other error of the database is told
-- as a failure of the store
abbrev pub told : Error → StoreFault
told (SqliteFailure OutOfMemory) = NoMemory
told (SqliteFailure OperationInterrupted) = TooLong
told _ = Failed
