-- What a SELECT answers, in any state of a connection.
use Rattle.sqlite_rules.specs.Lists.{Has}
use Rattle.std.proofs.Common.{◌≡◌, Equal, ℕ, List, [], Bool, Ok, Err, Result, IsTrue, IfOk, IfErr, map, filter, find, take, option_map, ◌∷◌, sym, subst, inl, inr}
use Rattle.sqlite_value.specs.declared.value.Value.TheVariants.{Null, Text}
use Rattle.sqlite_value.specs.declared.keys.Key as sort
use Rattle.sqlite_value.specs.Order.{Row, column}
use Rattle.sqlite_trees.specs.Tree.{Trees}
use Rattle.sqlite_sql.specs.Term.{Term}
use Rattle.sqlite_sql.specs.Query.{Query, inner, end, IsAnswer}
use Rattle.sqlite_sql.specs.Program.{overlay}
use Rattle.sqlite_schema.specs.Rules.{Obeys}
use Rattle.sqlite_schema.specs.declared.command.Command.TheVariants.{Select}
use Rattle.sqlite.specs.declared.error.Error.{Error}
use Rattle.sqlite.specs.Listing.{understood}
use Rattle.sqlite.specs.State.{State, HasCleanDisk, Survives, Shown, FailsToQuery, CommitsShowing}
use Rattle.sqlite.proofs.Callers.{IsPlain, reads_as}
use Rattle.hub_rows.specs.Keyed.{first, put_all, greatest}
use Rattle.sql_tables.specs.Tables.{hub_schema}
use Rattle.sql_tables.specs.Forms.{any_query, plain_query, last_query, page_query}
use Rattle.sql_tables.specs.Meanings.{IsRead}
use Rattle.sql_rows.specs.TypedTable.{TypedTable, cmp, rows_in, AreTyped}
use Rattle.sql_rows.specs.TypedTables.{hub_good}
use Rattle.sql_rows.specs.Kept.{AreTopCells, IsServing, LeavesAll, IsUncommitted, CommitsNothing, Shows, ShowsLast, ShowsPage, ShowsText, ShowsTopCells}
use Rattle.sql_rows.specs.Values.{count_in, first_text}
use Rattle.sql_rows.proofs.TypedTableLemmas.{IsTypedTable}
use Rattle.sql_rows.proofs.ReadLaws.{AreCells, IsNumbered, IsTest, IsWhole, lists_those, once}
use Rattle.sql_rows.proofs.DownLaws.{last_is, top_is}
use Rattle.sql_rows.proofs.PageLaws.{IsOrdered, page_is}
use Rattle.sql_rows.proofs.FirstLaws.{IsLed, IsTexted, first_is}
use Rattle.sql_rows.proofs.StoreLemmas.{obeys_in, serves_still, shown_was, shown_up, shown_unchanged, commits_none, failed_was, fails_before}

-- what its answers are, and that it changes nothing
module _ (sql : List ℕ) (body : Query) (names : List (List ℕ)) (text : IsRead sql body names) (params : Row) where
  answers : (Holds : Trees → List Row → Type 0) → ((db : Trees) → AreTyped hub_schema hub_good db → Obeys hub_schema db → (rows : List Row) → IsAnswer body (overlay db []) params rows → Holds db rows)
      → {V : Type 0} (items : V → List Row) (old new : State) (values : Row) (r : Result V Error) → values ≡ params → IsServing old → IfOk r (λ v. Shown sql values old new (items v)) → IfOk r (λ v. Holds old.now.trees (items v))
  answers Holds holds items old new values (Ok v) given h shown =
      let there : Shown sql params old new (items v) = subst (λ q. Shown sql q old new (items v)) given shown in
      let was = h (shown_was sql params old new (items v) there) in
      let read = reads_as sql params old new hub_schema was.now.schema (Select (record { lets = []; body = body }) names) text.0 text.1 text.2 (items v) there in
      holds old.now.trees was.now.rows (obeys_in old was) (items v) (read.answer Null)
  answers Holds holds items old new values (Err e) given h shown = tt

  stays : {V : Type 0} (items : V → List Row) (old new : State) (values : Row) (r : Result V Error) → IsServing old → IsTrue new.is_open
      → IfOk r (λ v. Shown sql values old new (items v)) → IfErr r (FailsToQuery sql values old new) → LeavesAll old new r
  stays items old new values (Ok v) h up shown failed =
      let was = shown_was sql values old new (items v) shown in
      serves_still old new h (shown_unchanged sql values old new (items v) (subst (λ k. IsPlain (understood k sql)) (sym (h was).now.schema) text.1) shown)
  stays items old new values (Err e) h up shown failed =
      let was = failed_was sql values old new e up failed in
      fails_before sql values old new h up e (subst (λ k. IsPlain (understood k sql)) (sym (h was).now.schema) text.1) failed

  stops : {V : Type 0} (items : V → List Row) (old new : State) (values : Row) (r : Result V Error) → Survives old new (CommitsShowing sql values old)
      → (HasCleanDisk new → IfOk r (λ v. Shown sql values old new (items v))) → CommitsNothing old new r
  stops {V} items old new values r survives shown = go r shown
    where
      uncommitted : IsServing old → IsUncommitted old new
      uncommitted h = record {
        clean = survives.clean;
        leaves = λ up sure db left. elim (survives.crash sure db left) [
          | inl was ↦ was
          | inr written ↦ absurd (commits_none sql values old new db (subst (λ k. IsPlain (understood k sql)) (sym (h up).now.schema) text.1) written)
        ];
      }

      go : (r : Result V Error) → (HasCleanDisk new → IfOk r (λ v. Shown sql values old new (items v))) → CommitsNothing old new r
      go (Ok v) shown = λ h. record { stops = uncommitted h; up = λ up sure. shown_up sql values old new (items v) (shown sure) }
      go (Err e) shown = uncommitted

-- the text with these parameters shows the rows that pass
pub record ReadsRows {T : Type 0} (sql : List ℕ) (params : Row) (s : TypedTable T) (p : T → Bool) : Type 1 where
  pub at : ℕ
  pub is : IsTypedTable hub_schema hub_good at s
  pub wanted : List Term
  pub project : List Term
  pub whole : IsWhole s project
  pub order : List (Term × sort.Key)
  pub names : List (List ℕ)
  pub text : IsRead sql (plain_query (inner s.table.tree end) wanted project order) names
  pub test : IsTest s wanted params p

-- it shows one of all rows
pub record ReadsAny {T : Type 0} (sql : List ℕ) (s : TypedTable T) : Type 1 where
  pub at : ℕ
  pub is : IsTypedTable hub_schema hub_good at s
  pub project : List Term
  pub whole : IsWhole s project
  pub names : List (List ℕ)
  pub text : IsRead sql (any_query s.table.tree project) names

-- it shows these cells of the row that passes and has the greatest number, which stands at that place
pub record ReadsLast {T : Type 0} (sql : List ℕ) (params : Row) (s : TypedTable T) (cells : T → Row) (number : T → ℕ) (p : T → Bool) : Type 1 where
  pub at : ℕ
  pub is : IsTypedTable hub_schema hub_good at s
  pub wanted : List Term
  pub project : List Term
  pub shown : AreCells s project cells
  pub place : ℕ
  pub numbered : IsNumbered s number place
  pub names : List (List ℕ)
  pub text : IsRead sql (last_query s.table.tree wanted project place) names
  pub test : IsTest s wanted params p

-- it shows the first n rows that pass in the order of the number, which stands at that place
pub record ReadsPage {T : Type 0} (n : ℕ) (sql : List ℕ) (params : Row) (s : TypedTable T) (p : T → Bool) : Type 1 where
  pub at : ℕ
  pub is : IsTypedTable hub_schema hub_good at s
  pub wanted : List Term
  pub project : List Term
  pub whole : IsWhole s project
  pub place : ℕ
  pub number : T → ℕ
  pub numbered : IsNumbered s number place
  pub ordered : IsOrdered s number p
  pub names : List (List ℕ)
  pub text : IsRead sql (page_query s.table.tree wanted project place n) names
  pub test : IsTest s wanted params p

-- it shows the text of the first row that passes, which stands at that place
pub record ReadsText {T : Type 0} (sql : List ℕ) (params : Row) (s : TypedTable T) (text : T → List ℕ) (p : T → Bool) : Type 1 where
  pub at : ℕ
  pub is : IsTypedTable hub_schema hub_good at s
  pub wanted : List Term
  pub project : List Term
  pub shown : AreCells s project (λ t. Text (text t) ∷ [])
  pub place : ℕ
  pub texted : IsTexted s text place
  pub led : IsLed s text
  pub names : List (List ℕ)
  pub means : IsRead sql (page_query s.table.tree wanted project place 1) names
  pub test : IsTest s wanted params p

pub shows : {T : Type 0} {sql : List ℕ} {params : Row} {s : TypedTable T} {p : T → Bool} → ReadsRows sql params s p
    → {V : Type 0} (items : V → List Row) (old new : State) (values : Row) (r : Result V Error) → (HasCleanDisk new → IfOk r (λ v. Shown sql values old new (items v))) → (HasCleanDisk new → IfErr r (FailsToQuery sql values old new))
    → Survives old new (CommitsShowing sql values old) → values ≡ params → IsServing old → (IsTrue new.is_open → HasCleanDisk new) → Shows items s p old new r
shows {T} {sql} {params} {s} {p} f items old new values r ok err survives given h clean = record {
  ok = λ up. answers sql (plain_query (inner s.table.tree end) f.wanted f.project f.order) f.names f.text params (λ db rows. put_all (cmp s) (map s.read rows) [] ≡ filter p (rows_in s db))
      (λ db kept obeys rows answer. lists_those hub_schema hub_good f.at s f.is f.wanted params p f.test db kept f.project f.whole f.order obeys rows answer) items old new values r given h (ok (clean up));
  once = λ up. answers sql (plain_query (inner s.table.tree end) f.wanted f.project f.order) f.names f.text params (λ db rows. (a b : T) → Has (map s.read rows) a → Has (map s.read rows) b → cmp s a b ≡ Equal → a ≡ b)
      (λ db kept obeys rows answer. once hub_schema hub_good f.at s f.is f.wanted params p f.test db kept f.project f.whole f.order obeys rows answer) items old new values r given h (ok (clean up));
  same = λ up. stays sql (plain_query (inner s.table.tree end) f.wanted f.project f.order) f.names f.text params items old new values r h up (ok (clean up)) (err (clean up));
  stops = stops sql (plain_query (inner s.table.tree end) f.wanted f.project f.order) f.names f.text params items old new values r survives ok;
}

pub shows_last : {T : Type 0} {sql : List ℕ} {params : Row} {s : TypedTable T} {cells : T → Row} {number : T → ℕ} {p : T → Bool} → ReadsLast sql params s cells number p → (at : ℕ) → ((t : T) → count_in (column (cells t) at) ≡ number t)
    → {V : Type 0} (items : V → List Row) (old new : State) (values : Row) (r : Result V Error) → (HasCleanDisk new → IfOk r (λ v. Shown sql values old new (items v))) → (HasCleanDisk new → IfErr r (FailsToQuery sql values old new))
    → Survives old new (CommitsShowing sql values old) → values ≡ params → IsServing old → (IsTrue new.is_open → HasCleanDisk new) → ShowsLast items at s number p old new r
shows_last {T} {sql} {params} {s} {cells} {number} {p} f at counted items old new values r ok err survives given h clean = record {
  ok = λ up. answers sql (last_query s.table.tree f.wanted f.project f.place) f.names f.text params (λ db rows. greatest (map (λ x. count_in (column x at)) rows) ≡ greatest (map number (filter p (rows_in s db))))
      (λ db kept obeys rows answer. last_is f.at s f.is f.wanted f.project cells f.shown params p f.test f.place number f.numbered db kept obeys rows answer at counted) items old new values r given h (ok (clean up));
  same = λ up. stays sql (last_query s.table.tree f.wanted f.project f.place) f.names f.text params items old new values r h up (ok (clean up)) (err (clean up));
  stops = stops sql (last_query s.table.tree f.wanted f.project f.place) f.names f.text params items old new values r survives ok;
}

pub shows_page : {T : Type 0} {n : ℕ} {sql : List ℕ} {params : Row} {s : TypedTable T} {p : T → Bool} → ReadsPage n sql params s p
    → {V : Type 0} (items : V → List Row) (old new : State) (values : Row) (r : Result V Error) → (HasCleanDisk new → IfOk r (λ v. Shown sql values old new (items v))) → (HasCleanDisk new → IfErr r (FailsToQuery sql values old new))
    → Survives old new (CommitsShowing sql values old) → values ≡ params → IsServing old → (IsTrue new.is_open → HasCleanDisk new) → ShowsPage n items s p old new r
shows_page {T} {n} {sql} {params} {s} {p} f items old new values r ok err survives given h clean = record {
  ok = λ up. answers sql (page_query s.table.tree f.wanted f.project f.place n) f.names f.text params (λ db rows. put_all (cmp s) (map s.read rows) [] ≡ take n (filter p (rows_in s db)))
      (λ db kept obeys rows answer. page_is f.at s f.is f.wanted f.project f.whole params p f.test f.place n f.number f.numbered f.ordered db kept obeys rows answer) items old new values r given h (ok (clean up));
  same = λ up. stays sql (page_query s.table.tree f.wanted f.project f.place n) f.names f.text params items old new values r h up (ok (clean up)) (err (clean up));
  stops = stops sql (page_query s.table.tree f.wanted f.project f.place n) f.names f.text params items old new values r survives ok;
}

pub shows_top_cells : {T : Type 0} {sql : List ℕ} {params : Row} {s : TypedTable T} {cells : T → Row} {number : T → ℕ} {p : T → Bool} → ReadsLast sql params s cells number p
    → {V : Type 0} (items : V → List Row) (old new : State) (values : Row) (r : Result V Error) → (HasCleanDisk new → IfOk r (λ v. Shown sql values old new (items v))) → (HasCleanDisk new → IfErr r (FailsToQuery sql values old new))
    → Survives old new (CommitsShowing sql values old) → values ≡ params → IsServing old → (IsTrue new.is_open → HasCleanDisk new) → ShowsTopCells items s cells number p old new r
shows_top_cells {T} {sql} {params} {s} {cells} {number} {p} f items old new values r ok err survives given h clean = record {
  ok = λ up. answers sql (last_query s.table.tree f.wanted f.project f.place) f.names f.text params (λ db rows. AreTopCells cells number (filter p (rows_in s db)) rows)
      (λ db kept obeys rows answer. top_is f.at s f.is f.wanted f.project cells f.shown params p f.test f.place number f.numbered db kept obeys rows answer) items old new values r given h (ok (clean up));
  same = λ up. stays sql (last_query s.table.tree f.wanted f.project f.place) f.names f.text params items old new values r h up (ok (clean up)) (err (clean up));
  stops = stops sql (last_query s.table.tree f.wanted f.project f.place) f.names f.text params items old new values r survives ok;
}

pub shows_text : {T : Type 0} {sql : List ℕ} {params : Row} {s : TypedTable T} {text : T → List ℕ} {p : T → Bool} → ReadsText sql params s text p
    → {V : Type 0} (items : V → List Row) (old new : State) (values : Row) (r : Result V Error) → (HasCleanDisk new → IfOk r (λ v. Shown sql values old new (items v))) → (HasCleanDisk new → IfErr r (FailsToQuery sql values old new))
    → Survives old new (CommitsShowing sql values old) → values ≡ params → IsServing old → (IsTrue new.is_open → HasCleanDisk new) → ShowsText items s text p old new r
shows_text {T} {sql} {params} {s} {text} {p} f items old new values r ok err survives given h clean = record {
  ok = λ up. answers sql (page_query s.table.tree f.wanted f.project f.place 1) f.names f.means params (λ db rows. option_map first_text (first rows) ≡ option_map text (find p (rows_in s db)))
      (λ db kept obeys rows answer. first_is f.at s f.is f.wanted f.project params p f.test f.place text f.texted f.shown f.led db kept obeys rows answer) items old new values r given h (ok (clean up));
  same = λ up. stays sql (page_query s.table.tree f.wanted f.project f.place 1) f.names f.means params items old new values r h up (ok (clean up)) (err (clean up));
  stops = stops sql (page_query s.table.tree f.wanted f.project f.place 1) f.names f.means params items old new values r survives ok;
}
