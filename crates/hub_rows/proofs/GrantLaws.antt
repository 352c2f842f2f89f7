-- What is granted to an operator, after changes of its own and of others.
use Rattle.std.specs.Prelude.{◌≡◌, ◌≢◌, ℕ, Option, None, Some, List, [], ◌∷◌, Bool, true, false, cond, ◌&&◌, filter}
use Rattle.std.proofs.Common.{refl, sym, ◌∙◌, ap, subst, arith}
use Rattle.std.specs.List.{AllByRecursion, filter_map, cons_option}
use Rattle.std.specs.List.Sorted.{IsStrictlySortedBy}
use Rattle.std.specs.Option.{option_map}
use Rattle.std.specs.Ordering.{ordering_then}
use Rattle.std.specs.declared.cmp.Ordering.{Ordering}
use Rattle.std.specs.declared.cmp.Ordering.TheVariants.{Less, Equal, Greater}
use Rattle.std.specs.Str.{bytes_eq}
use Rattle.std.proofs.lemmas.Bool.{and_parts}
use Rattle.std.proofs.lemmas.Cmp.{tied_itself, nat_list_cmp_total}
use Rattle.hub_rows.specs.declared.change.Edit.{Edit}
use Rattle.hub_rows.specs.declared.change.Edit.TheVariants.{Stations, Tags, Transactions, Holdings}
use Rattle.hub_rows.specs.declared.change.StationEdit.TheVariants.{StationAdded}
use Rattle.hub_rows.specs.declared.change.TransactionEdit.TheVariants.{MeterValuesAdded}
use Rattle.hub_rows.specs.declared.change.HoldingEdit.TheVariants.{ReservationDropped}
use Rattle.hub_rows.specs.declared.change.TagEdit.TheVariants.{TagPut, TagDropped, GrantPut, GrantDropped}
use Rattle.hub_rows.specs.declared.grant_row.GrantRow.{GrantRow}
use Rattle.hub_rows.specs.declared.info.GrantedTag.{GrantedTag}
use Rattle.hub_rows.specs.declared.info.Info.{Info}
use Rattle.hub_rows.specs.declared.tag_row.TagRow.{TagRow}
use Rattle.hub_rows.specs.Changes.{edit, tag_row, grant_row, IsAnother, EditFits}
use Rattle.hub_rows.specs.Grants.{is_grant, granted_until, entry_by, info_by, grants_to, received_key, granted_in, granted_tag_in, grants_of_key}
use Rattle.hub_rows.specs.Keyed.{text_cmp, by_key, own, without, in_order, first}
use Rattle.hub_rows.specs.Lookups.{own_tag, own_granted_tag}
use Rattle.hub_rows.specs.Rows.{Rows, tag_rest, grant_key}
use Rattle.hub_rows.specs.Tags.{effective, is_blocked, tag_in, own_tag_in}
use Rattle.hub_rows.specs.WellFormed.{IsGoodGrant, WellFormedRows}
use Rattle.hub_rows.proofs.ListLaws.{by_key_total, filter-put_not, own-put_other, own-without_other, same_text, other_text, ties_key, all-weaker}
use Rattle.hub_rows.proofs.OrderLaws.{all-in_order, filter-in_order, find-first, in_order-sorted}
use Rattle.hub_rows.proofs.TagLaws.{same_tag}

-- the second and the third part of a key
abbrev pub second : List (List ℕ) → List ℕ
second (x ∷ y ∷ rest) = y
second _ = []

abbrev pub third : List (List ℕ) → List ℕ
third (x ∷ y ∷ z ∷ rest) = z
third _ = []

-- ---- an operator's own changes

-- no one grants to itself
abbrev pub IsToAnother : GrantRow → Type 0
IsToAnother g = g.to ≢ g.op

receivers : (rows : Rows) → WellFormedRows rows → AllByRecursion IsToAnother rows.grants
receivers rows good = all-weaker (IsGoodGrant rows.tags) IsToAnother (λ g it. it.receiver) rows.grants good.grants.each

-- what is granted to a is granted by others
by_others : (a : List ℕ) (gs : List GrantRow) → AllByRecursion IsToAnother gs → AllByRecursion (λ g. g.op ≢ a) (grants_to a gs)
by_others a [] all = tt
by_others a (g ∷ gs) all =
    elim (bytes_eq g.to a) as (λ b. bytes_eq g.to a ≡ b → AllByRecursion (λ g. g.op ≢ a) (cond b (g ∷ grants_to a gs) (grants_to a gs))) [
      | true ↦ λ e. ((λ q. all.0 (same_text g.to a e ∙ sym q)), by_others a gs all.1)
      | false ↦ λ e. by_others a gs all.1
    ] refl

-- entries depend on the tags of their owners
same_entries : (a : List ℕ) (old new : List TagRow) → ((b : List ℕ) → b ≢ a → own (λ r. r.op) b new ≡ own (λ r. r.op) b old) → (gs : List GrantRow) → AllByRecursion (λ g. g.op ≢ a) gs → filter_map (entry_by new) gs ≡ filter_map (entry_by old) gs
same_entries a old new tags [] all = refl
same_entries a old new tags (g ∷ gs) all =
    let tag : own_tag_in g.op g.key new ≡ own_tag_in g.op g.key old = same_tag g.op g.key new ∙ ap (own_tag g.key) (tags g.op all.0) ∙ sym (same_tag g.op g.key old) in
    λ i. cons_option (option_map (λ info. record { key = g.key; owner = g.op; info = info }) (option_map (granted_until g.op g.until) (tag i))) (same_entries a old new tags gs all.1 i)

-- what is granted to a depends on the grants to it, and on the tags of others
granted-same : (a : List ℕ) (old : Rows) → WellFormedRows old → (tags : List TagRow) (grants : List GrantRow) → grants_to a grants ≡ grants_to a old.grants → ((b : List ℕ) → b ≢ a → own (λ r. r.op) b tags ≡ own (λ r. r.op) b old.tags) → granted_in a tags grants ≡ granted_in a old.tags old.grants
unfolding granted_in
granted-same a old good tags grants same theirs =
    ap (λ gs. filter_map (entry_by tags) (in_order (by_key received_key) gs)) same
    ∙ same_entries a old.tags tags theirs (in_order (by_key received_key) (grants_to a old.grants)) (all-in_order (by_key received_key) (λ g. g.op ≢ a) (grants_to a old.grants) (by_others a old.grants (receivers old good)))

-- what a takes back, it has not granted to itself
grants_to-without : (a : List ℕ) (test : GrantRow → Bool) (gs : List GrantRow) → AllByRecursion IsToAnother gs → grants_to a (without (λ r. r.op) a test gs) ≡ grants_to a gs
grants_to-without a test [] all = refl
grants_to-without a test (g ∷ gs) all =
    let apart : bytes_eq g.to a ≡ true → bytes_eq g.op a ≡ false = (λ e. other_text g.op a (λ q. all.0 (same_text g.to a e ∙ sym q))) in
    grind (arith, grants_to-without a test gs all.1, apart)

-- one's own edit leaves what is granted to one
pub granted-edit : (a : List ℕ) (e : Edit) (rows : Rows) → WellFormedRows rows → EditFits a e rows → granted_in a (edit a e rows).tags (edit a e rows).grants ≡ granted_in a rows.tags rows.grants
granted-edit a (Tags (TagPut key tag)) rows good fits =
    granted-same a rows good (edit a (Tags (TagPut key tag)) rows).tags rows.grants refl (λ b differ. own-put_other (λ r. r.op) tag_rest b (tag_row a key tag) rows.tags (λ e. differ (sym e)))
granted-edit a (Tags (TagDropped key)) rows good fits =
    granted-same a rows good (edit a (Tags (TagDropped key)) rows).tags (edit a (Tags (TagDropped key)) rows).grants (grants_to-without a (λ r. bytes_eq r.key key) rows.grants (receivers rows good))
    (λ b differ. own-without_other (λ r. r.op) b a (λ r. bytes_eq r.key key) rows.tags (λ e. differ (sym e)))
granted-edit a (Tags (GrantPut key to until)) rows good fits =
    granted-same a rows good rows.tags (edit a (Tags (GrantPut key to until)) rows).grants
    (filter-put_not (by_key grant_key) (λ g. bytes_eq g.to a) (ties_key grant_key (λ k. bytes_eq (third k) a)) (grant_row a key to until) rows.grants (other_text to a fits.1)) (λ b differ. refl)
granted-edit a (Tags (GrantDropped key to)) rows good fits =
    granted-same a rows good rows.tags (edit a (Tags (GrantDropped key to)) rows).grants (grants_to-without a (is_grant key to) rows.grants (receivers rows good)) (λ b differ. refl)
granted-edit a (Stations (StationAdded station policy interval)) rows good fits = refl
granted-edit a (Transactions (MeterValuesAdded station first values)) rows good fits = refl
granted-edit a (Holdings (ReservationDropped station id)) rows good fits = refl
granted-edit a e rows good fits = refl

-- ---- the tag of a key

-- the entries of a key are those of its grants
filter-entries : (tags : List TagRow) (key : List ℕ) (gs : List GrantRow) → filter (λ e. bytes_eq e.key key) (filter_map (entry_by tags) gs) ≡ filter_map (entry_by tags) (filter (λ g. bytes_eq g.key key) gs)
filter-entries tags key [] = refl
filter-entries tags key (g ∷ gs) =
    let entry : Info → GrantedTag = (λ info. record { key = g.key; owner = g.op; info = info }) in
    let all : List GrantedTag = filter_map (entry_by tags) gs in
    let of_key : List GrantedTag = filter_map (entry_by tags) (filter (λ g. bytes_eq g.key key) gs) in
    elim (info_by tags g) as (λ o. filter (λ e. bytes_eq e.key key) (cons_option (option_map entry o) all) ≡ cond (bytes_eq g.key key) (cons_option (option_map entry o) of_key) of_key) [
      | None ↦ filter-entries tags key gs ∙ elim (bytes_eq g.key key) as (λ t. of_key ≡ cond t of_key of_key) [ true ↦ refl | false ↦ refl ]
      | Some info ↦ ap (λ es. cond (bytes_eq g.key key) (entry info ∷ es) es) (filter-entries tags key gs)
    ]
    ∙ elim (bytes_eq g.key key) as (λ t. cond t (cons_option (option_map entry (info_by tags g)) of_key) of_key ≡ filter_map (entry_by tags) (cond t (g ∷ filter (λ g. bytes_eq g.key key) gs) (filter (λ g. bytes_eq g.key key) gs))) [ true ↦ refl | false ↦ refl ]

first-entries : (tags : List TagRow) (gs : List GrantRow) → first (filter_map (info_by tags) gs) ≡ option_map (λ e. e.info) (first (filter_map (entry_by tags) gs))
first-entries tags [] = refl
first-entries tags (g ∷ gs) = elim (info_by tags g) as (λ o. first (cons_option o (filter_map (info_by tags) gs)) ≡ option_map (λ e. e.info) (first (cons_option (option_map (λ info. record { key = g.key; owner = g.op; info = info }) o) (filter_map (entry_by tags) gs)))) [
  | None ↦ first-entries tags gs
  | Some info ↦ refl
]

under_owner : (o p q : Ordering) → p ≡ Equal → q ≡ Equal → ordering_then o (ordering_then p (ordering_then q Equal)) ≡ Less → ordering_then q (ordering_then p (ordering_then o Equal)) ≡ Less
under_owner Less p q key to below = (λ i. ordering_then (to i) (ordering_then (key i) Less))
under_owner Equal p q key to below = (let clash : Equal ≡ Less = sym (λ i. ordering_then (key i) (ordering_then (to i) Equal)) ∙ below in absurd (cc))
under_owner Greater p q key to below = absurd (cc)

tied : (s t : List ℕ) → s ≡ t → text_cmp s t ≡ Equal
tied s t e = ap (text_cmp s) (sym e) ∙ tied_itself nat_list_cmp_total s

-- a grant above another of the same key to the same operator has an owner above
owners_above : (a key : List ℕ) (g : GrantRow) (gs : List GrantRow) → g.to ≡ a → g.key ≡ key → AllByRecursion (λ h. by_key grant_key g h ≡ Less) gs → AllByRecursion (λ h. by_key received_key g h ≡ Less) (grants_of_key a key gs)
owners_above a key g [] to same all = tt
owners_above a key g (h ∷ hs) to same all =
    elim (bytes_eq h.to a && bytes_eq h.key key) as (λ t. (bytes_eq h.to a && bytes_eq h.key key) ≡ t → AllByRecursion (λ h. by_key received_key g h ≡ Less) (cond t (h ∷ grants_of_key a key hs) (grants_of_key a key hs))) [
      | true ↦ λ both. let parts = and_parts (bytes_eq h.to a) (bytes_eq h.key key) both in
          (under_owner (text_cmp g.op h.op) (text_cmp g.key h.key) (text_cmp g.to h.to) (tied g.key h.key (same ∙ sym (same_text h.key key parts.1))) (tied g.to h.to (to ∙ sym (same_text h.to a parts.0))) all.0, owners_above a key g hs to same all.1)
      | false ↦ λ either. owners_above a key g hs to same all.1
    ] refl

-- the grants of one key to one operator are in the order of their owners
sorted-of_key : (a key : List ℕ) (gs : List GrantRow) → IsStrictlySortedBy (by_key grant_key) gs → IsStrictlySortedBy (by_key received_key) (grants_of_key a key gs)
unfolding IsStrictlySortedBy
sorted-of_key a key [] sorted = tt
sorted-of_key a key (g ∷ gs) sorted =
    elim (bytes_eq g.to a && bytes_eq g.key key) as (λ t. (bytes_eq g.to a && bytes_eq g.key key) ≡ t → IsStrictlySortedBy (by_key received_key) (cond t (g ∷ grants_of_key a key gs) (grants_of_key a key gs))) [
      | true ↦ λ both. let parts = and_parts (bytes_eq g.to a) (bytes_eq g.key key) both in
          (owners_above a key g gs (same_text g.to a parts.0) (same_text g.key key parts.1) sorted.0, sorted-of_key a key gs sorted.1)
      | false ↦ λ either. sorted-of_key a key gs sorted.1
    ] refl

filter-of_key : (a key : List ℕ) (gs : List GrantRow) → filter (λ g. bytes_eq g.key key) (grants_to a gs) ≡ grants_of_key a key gs
filter-of_key a key [] = refl
filter-of_key a key (g ∷ gs) = grind (arith, filter-of_key a key gs)

-- those of one key, of all in the order of their receivers
pub received-of_key : (a key : List ℕ) (gs : List GrantRow) → IsStrictlySortedBy (by_key grant_key) gs → filter (λ g. bytes_eq g.key key) (in_order (by_key received_key) (grants_to a gs)) ≡ grants_of_key a key gs
received-of_key a key gs sorted =
    filter-in_order (by_key received_key) (by_key_total received_key) (λ g. bytes_eq g.key key) (ties_key received_key (λ k. bytes_eq (second k) key)) (grants_to a gs)
    ∙ ap (in_order (by_key received_key)) (filter-of_key a key gs)
    ∙ in_order-sorted (by_key received_key) (grants_of_key a key gs) (sorted-of_key a key gs sorted)

-- the granted tag of a key is the first of that key among all that are granted
pub granted_tag-own : (a key : List ℕ) (rows : Rows) → WellFormedRows rows → granted_tag_in a key rows.tags rows.grants ≡ own_granted_tag key (granted_in a rows.tags rows.grants)
unfolding granted_in granted_tag_in
granted_tag-own a key rows good =
    let received : List GrantRow = in_order (by_key received_key) (grants_to a rows.grants) in
    first-entries rows.tags (grants_of_key a key rows.grants)
    ∙ ap (λ gs. option_map (λ e. e.info) (first (filter_map (entry_by rows.tags) gs))) (sym (received-of_key a key rows.grants good.grants.sorted))
    ∙ ap (λ es. option_map (λ e. e.info) (first es)) (sym (filter-entries rows.tags key received))
    ∙ sym (ap (option_map (λ e. e.info)) (find-first (λ e. bytes_eq e.key key) (granted_in a rows.tags rows.grants)))

-- ---- the owner of a tag

-- one's own tag is of no other owner
pub own_tag-owner : (b key : List ℕ) (tags : List TagRow) (info : Info) → own_tag_in b key tags ≡ Some info → info.owner ≡ None
own_tag-owner b key tags info = go (tag_in b key tags)
  where
    go : (o : Option TagRow) → option_map (λ r. effective (λ parent. is_blocked (tag_in b parent tags)) r.tag) o ≡ Some info → info.owner ≡ None
    go None found = absurd (cc)
    go (Some r) found = let same : effective (λ parent. is_blocked (tag_in b parent tags)) r.tag ≡ info = cc in ap (λ (i : Info). i.owner) (sym same)

-- the grants of a key to operator a are of other owners
owners_of_key : (a key : List ℕ) (tags : List TagRow) (gs : List GrantRow) → AllByRecursion IsToAnother gs → AllByRecursion (λ info. IsAnother a info.owner) (filter_map (info_by tags) (grants_of_key a key gs))
owners_of_key a key tags [] all = tt
owners_of_key a key tags (g ∷ gs) all =
    let rest = owners_of_key a key tags gs all.1 in
    elim (bytes_eq g.to a && bytes_eq g.key key) as (λ t. (bytes_eq g.to a && bytes_eq g.key key) ≡ t → AllByRecursion (λ info. IsAnother a info.owner) (filter_map (info_by tags) (cond t (g ∷ grants_of_key a key gs) (grants_of_key a key gs)))) [
      | true ↦ λ both.
          let other : g.op ≢ a = (λ q. all.0 (same_text g.to a (and_parts (bytes_eq g.to a) (bytes_eq g.key key) both).0 ∙ sym q)) in
          elim (own_tag_in g.op g.key tags) as (λ o. AllByRecursion (λ info. IsAnother a info.owner) (cons_option (option_map (granted_until g.op g.until) o) (filter_map (info_by tags) (grants_of_key a key gs)))) [
            | None ↦ rest
            | Some info ↦ (other, rest)
          ]
      | false ↦ λ either. rest
    ] refl

first_all : {R : Type 0} (P : R → Type 0) (xs : List R) → AllByRecursion P xs → (r : R) → first xs ≡ Some r → P r
first_all P [] all r found = absurd (cc)
first_all P (x ∷ xs) all r found = let same : x ≡ r = cc in subst P same all.0

-- a tag that is granted to one is of another owner
pub granted_tag-owner : (a key : List ℕ) (rows : Rows) → WellFormedRows rows → (info : Info) → granted_tag_in a key rows.tags rows.grants ≡ Some info → IsAnother a info.owner
unfolding granted_tag_in
granted_tag-owner a key rows good info found = first_all (λ i. IsAnother a i.owner) (filter_map (info_by rows.tags) (grants_of_key a key rows.grants)) (owners_of_key a key rows.tags rows.grants (receivers rows good)) info found
