-- A store of which a reopening may find any rows is never kept.
use Rattle.std.proofs.Common.{◌≡◌, ◌∙◌, [], ◌∷◌, Err, None, Ok, OnErr, OnOk, Result, ap, refl, sym}
use Rattle.hub_rows.specs.declared.grant_row.GrantRow.{GrantRow}
use Rattle.hub_rows.specs.declared.store.Flush.{Flush}
use Rattle.hub_rows.specs.declared.store.Recovered.TheVariants.{Renewed, Whole}
use Rattle.hub_rows.specs.Rows.{Rows, no_rows}
use Rattle.hub_rows.specs.Stops.{FindsOldOr, FindsOnly, HasOnRecord, PutsOnRecord, Records, Recovers}
use Rattle.hub_rows.specs.StoreView.{StoreView}

-- such a store, with these rows
abbrev with_rows : Rows → StoreView
with_rows rows = record { rows = rows; failures = 0; clean = Unit {0}; sound = Unit {0}; was_sound = λ clean. clean; may_find = λ _. Unit {0} }

finds_more : (rows found : Rows) → FindsOnly rows (with_rows found) → ⊥
finds_more rows found only =
    let grant : GrantRow = record { op = []; key = []; to = []; until = None } in
    let one : Rows = record no_rows { grants = grant ∷ [] } in
    let same : no_rows ≡ one = (only no_rows tt).1 ∙ sym (only one tt).1 in
    let e : [] ≡ grant ∷ [] = ap (λ (r : Rows). r.grants) same in
    absurd cc

never_kept : (rows found : Rows) → HasOnRecord rows (with_rows found) → ⊥
never_kept rows found kept = finds_more rows found kept.alone

-- so all is true of one that has rows on record
pub stops_whole : (made old new : Rows) → FindsOldOr made (with_rows old) (with_rows new)
stops_whole made old new = λ on_record was. absurd (never_kept on_record old was)

pub kept_then : (old new : Rows) → PutsOnRecord (with_rows old) (with_rows new)
kept_then old new = λ on_record was. absurd (never_kept on_record old was)

pub records_all : {T E : Type 0} (when : Flush) (made old new : Rows) (result : Result T E) → Records when made (with_rows old) (with_rows new) result
records_all when made old new (Ok x) = record {
  stopped = λ now. stops_whole made old new;
  kept = λ now was. absurd (never_kept old old was);
  waits = λ later on_record was. absurd (never_kept on_record old was);
  left = λ later. tt;
}
records_all when made old new (Err e) = record {
  stopped = λ now. stops_whole made old new;
  kept = λ now was. tt;
  waits = λ later. tt;
  left = λ later on_record was. absurd (never_kept on_record old was);
}

-- no change waits, so all are there
pub recovers_whole : {E : Type 0} (rows : Rows) → Recovers {E = E} (with_rows rows) (with_rows rows) (Ok Whole)
recovers_whole {E} rows = record {
  whole = λ is. record { was_clean = λ clean. clean; rows = λ clean. refl; on_record = λ found only. absurd (finds_more found rows only) };
  renewed = λ is. let e = is in absurd cc;
  lost = tt;
  stopped = λ sound r found. found;
}
