-- What of the rows of a station is kept when some go: its open transactions, and the starts of the others.
use Rattle.std.specs.Prelude.{◌≡◌, ℕ, List, [], ◌∷◌, Bool, true, false, cond, ◌&&◌, ◌||◌, ◌==◌, not, Some, filter, map}
use Rattle.std.specs.List.{AllByRecursion}
use Rattle.std.specs.List.Sorted.{IsStrictlySortedBy}
use Rattle.std.specs.Option.{option_map}
use Rattle.std.specs.Str.{bytes_eq}
use Rattle.std.proofs.Common.{refl, sym, ◌∙◌, ap, subst}
use Rattle.std.proofs.lemmas.Bool.Decides.{Decides-eqb}
use Rattle.std.proofs.lemmas.Bool.{and_parts, true≢false}
use Rattle.hub_rows.specs.declared.tx_row.TxRow.{TxRow}
use Rattle.hub_rows.specs.Changes.{IsStopped}
use Rattle.hub_rows.specs.Forgetting.{has_number, is_one_of}
use Rattle.hub_rows.specs.Keyed.{by_key, in_order}
use Rattle.hub_rows.specs.Rows.{tx_key}
use Rattle.hub_rows.specs.Transactions.{counts, is_accepted, is_open, state_of, tx_in}
use Rattle.hub_rows.proofs.GrantLaws.{second}
use Rattle.hub_rows.proofs.ListLaws.{all-weaker, by_key_total, same_text, text_itself, ties_key}
use Rattle.hub_rows.proofs.OrderLaws.{filter-in_order}
use Rattle.store_mem.specs.declared.named_groups.NamedGroup.{NamedGroup}
use Rattle.store_mem.specs.declared.open.OpenRow.{OpenRow}
use Rattle.store_mem.specs.declared.starts.StartRow.{StartRow}
use Rattle.store_mem.specs.NamedGroups.{rows_at, AreInPlace}
use Rattle.store_mem.specs.Open.{open_of, tx_of, AreOpens}
use Rattle.store_mem.specs.Starts.{start_key, start_of, starts_of, AreStarts}
use Rattle.store_mem.proofs.OpenTxLaws.{found_itself}
use Rattle.store_mem.proofs.ReceivedLaws.{map-filter}
use Rattle.store_mem.proofs.RowLaws.{filter-kept, filter-swap}
use Rattle.hub_rows.proofs.FilterLaws.{all-these}

-- a transaction of the station with one of the numbers
abbrev pub goes : List ℕ → List ℕ → List ℕ → TxRow → Bool
goes o t numbers r = bytes_eq r.op o && is_one_of (λ x. x.station) (λ x. x.number) t numbers r

-- ---- each that goes is stopped

module _ (b st : List ℕ) (txs : List TxRow) where
  number-stopped : (numbers : List ℕ) (m : ℕ) → AllByRecursion (λ n. IsStopped (tx_in b st n txs)) numbers → has_number numbers m ≡ true → IsStopped (tx_in b st m txs)
  number-stopped [] m all has = absurd (true≢false (sym has))
  number-stopped (n ∷ numbers) m all has =
      elim (n == m) as (λ t. (n == m) ≡ t → (t || has_number numbers m) ≡ true → IsStopped (tx_in b st m txs)) [
        | true ↦ λ e here. subst (λ k. IsStopped (tx_in b st k txs)) ((Decides-eqb n m).0 e) all.0
        | false ↦ λ e there. number-stopped numbers m all.1 there
      ] refl has

  pub gone-stopped : (numbers : List ℕ) → IsStrictlySortedBy (by_key tx_key) txs → AllByRecursion (λ n. IsStopped (tx_in b st n txs)) numbers → AllByRecursion (λ r. goes b st numbers r ≡ true → is_open r ≡ false) txs
  gone-stopped numbers sorted all = all-weaker (λ r. r.op ≡ b → tx_of b txs (open_of r) ≡ Some r) (λ r. goes b st numbers r ≡ true → is_open r ≡ false) stopped txs (found_itself b txs sorted)
    where
      stopped : (r : TxRow) → (r.op ≡ b → tx_of b txs (open_of r) ≡ Some r) → goes b st numbers r ≡ true → is_open r ≡ false
      stopped r its e =
          let mine = and_parts (bytes_eq r.op b) (bytes_eq r.station st && has_number numbers r.number) e in
          let of = and_parts (bytes_eq r.station st) (has_number numbers r.number) mine.1 in
          subst (λ o. IsStopped (option_map state_of o)) (its (same_text r.op b mine.0))
          (subst (λ s. IsStopped (tx_in b s r.number txs)) (sym (same_text r.station st of.0)) (number-stopped numbers r.number all of.1))

-- one that isn't open doesn't count
pub not-counted : (r : TxRow) → is_open r ≡ false → counts r ≡ false
not-counted r e = ap (λ t. t && is_accepted r.start.status) e

-- ---- the open ones stay

pub opens-kept : (stands : TxRow → Bool) (name : TxRow → List ℕ) (o t numbers : List ℕ) (txs : List TxRow) (opens : List (NamedGroup OpenRow)) → AllByRecursion (λ r. goes o t numbers r ≡ true → stands r ≡ false) txs
    → AreOpens stands name opens txs → AreOpens stands name opens (filter (λ r. not (goes o t numbers r)) txs)
opens-kept stands name o t numbers txs opens all are = record {
  in_place = are.in_place;
  each = λ b n. are.each b n ∙ sym (ap (map open_of) (filter-kept (is b n) (λ r. not (goes o t numbers r)) txs (all-weaker (λ r. goes o t numbers r ≡ true → stands r ≡ false) (λ r. is b n r ≡ true → not (goes o t numbers r) ≡ true) (stays b n) txs all)));
}
  where
    is : List ℕ → List ℕ → TxRow → Bool
    is b n r = bytes_eq r.op b && (stands r && bytes_eq (name r) n)

    stays : (b n : List ℕ) (r : TxRow) → (goes o t numbers r ≡ true → stands r ≡ false) → is b n r ≡ true → not (goes o t numbers r) ≡ true
    stays b n r stopped it =
        elim (goes o t numbers r) as (λ g. goes o t numbers r ≡ g → not g ≡ true) [
          | true ↦ λ e.
              let mine = and_parts (bytes_eq r.op b) (stands r && bytes_eq (name r) n) it in
              absurd (true≢false (sym (and_parts (stands r) (bytes_eq (name r) n) mine.1).0 ∙ stopped e))
          | false ↦ λ e. refl
        ] refl

-- ---- the starts of the others stay

-- the number that is a part of a key
abbrev number_of_part : List ℕ → ℕ
number_of_part [] = 0
number_of_part (n ∷ ns) = n

abbrev pub keeps : List ℕ → StartRow → Bool
keeps numbers s = not (has_number numbers s.number)

module _ (o t numbers : List ℕ) where
  abbrev stays : TxRow → Bool
  stays r = not (goes o t numbers r)

  abbrev mine : List ℕ → List ℕ → TxRow → Bool
  mine b st r = bytes_eq r.op b && bytes_eq r.station st

  -- of the station itself those stay that have none of the numbers
  mine-kept : (txs : List TxRow) → filter (mine o t) (filter stays txs) ≡ filter (λ r. keeps numbers (start_of r)) (filter (mine o t) txs)
  mine-kept txs = filter-swap (mine o t) stays (λ r. keeps numbers (start_of r)) (λ r e. ap not (left-over (bytes_eq r.op o) (bytes_eq r.station t) (has_number numbers r.number) e)) txs
    where
      left-over : (p q n : Bool) → p && q ≡ true → p && (q && n) ≡ n
      left-over true true n e = refl
      left-over true false n e = absurd (cc)
      left-over false q n e = absurd (cc)

  -- and all of another
  others-kept : (b st : List ℕ) → (bytes_eq o b && bytes_eq t st) ≡ false → (txs : List TxRow) → filter (mine b st) (filter stays txs) ≡ filter (mine b st) txs
  others-kept b st apart txs = filter-kept (mine b st) stays txs (all-these (λ r. mine b st r ≡ true → stays r ≡ true) other txs)
    where
      other : (r : TxRow) → mine b st r ≡ true → stays r ≡ true
      other r it =
          elim (goes o t numbers r) as (λ g. goes o t numbers r ≡ g → not g ≡ true) [
            | true ↦ λ e.
                let its = and_parts (bytes_eq r.op b) (bytes_eq r.station st) it in
                let gone = and_parts (bytes_eq r.op o) (bytes_eq r.station t && has_number numbers r.number) e in
                let there = and_parts (bytes_eq r.station t) (has_number numbers r.number) gone.1 in
                let same_op = text_itself o b (sym (same_text r.op o gone.0) ∙ same_text r.op b its.0) in
                let same_station = text_itself t st (sym (same_text r.station t there.0) ∙ same_text r.station st its.1) in
                absurd (true≢false (sym (λ i. same_op i && same_station i) ∙ apart))
            | false ↦ λ e. refl
          ] refl

  starts-here : (txs : List TxRow) → in_order (by_key start_key) (starts_of o t (filter stays txs)) ≡ filter (keeps numbers) (in_order (by_key start_key) (starts_of o t txs))
  starts-here txs =
      ap (λ rs. in_order (by_key start_key) (map start_of rs)) (mine-kept txs) ∙ ap (in_order (by_key start_key)) (map-filter start_of (keeps numbers) (filter (mine o t) txs))
      ∙ sym (filter-in_order (by_key start_key) (by_key_total start_key) (keeps numbers) (ties_key start_key (λ k. not (has_number numbers (number_of_part (second k))))) (starts_of o t txs))

  starts-dropped : (b st : List ℕ) (txs : List TxRow)
      → in_order (by_key start_key) (starts_of b st (filter stays txs)) ≡ cond (bytes_eq o b && bytes_eq t st) (filter (keeps numbers) (in_order (by_key start_key) (starts_of b st txs))) (in_order (by_key start_key) (starts_of b st txs))
  starts-dropped b st txs =
      elim (bytes_eq o b && bytes_eq t st) as (λ z. (bytes_eq o b && bytes_eq t st) ≡ z → in_order (by_key start_key) (starts_of b st (filter stays txs)) ≡ cond z (filter (keeps numbers) (in_order (by_key start_key) (starts_of b st txs))) (in_order (by_key start_key) (starts_of b st txs))) [
        | true ↦ λ e.
            let both = and_parts (bytes_eq o b) (bytes_eq t st) e in
            subst (λ x. in_order (by_key start_key) (starts_of x st (filter stays txs)) ≡ filter (keeps numbers) (in_order (by_key start_key) (starts_of x st txs))) (same_text o b both.0)
            (subst (λ y. in_order (by_key start_key) (starts_of o y (filter stays txs)) ≡ filter (keeps numbers) (in_order (by_key start_key) (starts_of o y txs))) (same_text t st both.1) (starts-here txs))
        | false ↦ λ e. ap (λ rs. in_order (by_key start_key) (map start_of rs)) (others-kept b st e txs)
      ] refl

  pub starts-forgotten : (txs : List TxRow) (old new : List (NamedGroup StartRow)) → AreStarts old txs → AreInPlace new
      → ((b n : List ℕ) → rows_at b n new ≡ cond (bytes_eq o b && bytes_eq t n) (filter (keeps numbers) (rows_at b n old)) (rows_at b n old))
      → AreStarts new (filter stays txs)
  starts-forgotten txs old new are in_place rows = record {
    in_place = in_place;
    each = λ b st. rows b st ∙ (λ i. cond (bytes_eq o b && bytes_eq t st) (filter (keeps numbers) (are.each b st i)) (are.each b st i)) ∙ sym (starts-dropped b st txs);
  }
