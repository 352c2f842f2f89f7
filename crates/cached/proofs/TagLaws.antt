-- Answers to look-ups of tags that an edit leaves right.
use Rattle.std.specs.Prelude.{◌≡◌, ◌≢◌, ℕ, List, [], ◌∷◌, Bool, true, false, cond, ◌&&◌, ◌||◌, filter, Option, Some, None, IfSome}
use Rattle.std.proofs.Common.{refl, sym, ◌∙◌, ap, subst, arith}
use Rattle.std.specs.Char.{to_ascii_lowercase}
use Rattle.std.specs.List.{AllByRecursion, filter_map, cons_option}
use Rattle.std.specs.Option.{option_map}
use Rattle.std.specs.Str.{bytes_eq}
use Rattle.ocpp_types.specs.TagKey.{key_of}
use Rattle.hub_rows.specs.declared.change.Edit.{Edit}
use Rattle.hub_rows.specs.declared.change.Edit.TheVariants.{Stations, Tags, Transactions, Holdings}
use Rattle.hub_rows.specs.declared.change.StationEdit.TheVariants.{ReportSeen}
use Rattle.hub_rows.specs.declared.change.TagEdit.TheVariants.{TagPut, TagDropped, GrantPut, GrantDropped}
use Rattle.hub_rows.specs.declared.change.TransactionEdit.TheVariants.{MeterValuesAdded}
use Rattle.hub_rows.specs.declared.change.HoldingEdit.TheVariants.{ReservationDropped}
use Rattle.hub_rows.specs.declared.grant_row.GrantRow.{GrantRow}
use Rattle.hub_rows.specs.declared.info.Info.{Info}
use Rattle.hub_rows.specs.declared.tag_row.Tag.{Tag}
use Rattle.hub_rows.specs.declared.tag_row.TagRow.{TagRow}
use Rattle.hub_rows.specs.Changes.{edit, tag_row, grant_row}
use Rattle.hub_rows.specs.Grants.{granted_until, info_by, is_grant, granted_tag_in, grants_of_key}
use Rattle.hub_rows.specs.Keyed.{by_key, first, put, without}
use Rattle.hub_rows.specs.Rows.{Rows, tag_key, grant_key}
use Rattle.hub_rows.specs.Tags.{tag_in, is_blocked, is_parent_blocked, effective, own_tag_in}
use Rattle.hub_rows.proofs.GrantLaws.{second, third}
use Rattle.hub_rows.proofs.ListLaws.{filter-put_not, head, ties_key, same_text, other_text}
use Rattle.hub_rows.proofs.OrderLaws.{find-first}
use Rattle.cached.specs.declared.tag_answer.TagAnswer.{TagAnswer}
use Rattle.cached.specs.declared.tag_answer.LookUp.{LookUp}
use Rattle.cached.specs.declared.tag_answer.LookUp.TheVariants.{Own, Granted}
use Rattle.cached.specs.TagAnswers.{answered, looked_up, touched, IsAbout, IsApart, IsParentApart, IsRight}

-- ---- letters in any case

lowered_twice : (c : ℕ) → to_ascii_lowercase (to_ascii_lowercase c) ≡ to_ascii_lowercase c
lowered_twice c = grind arith

pub key_of-key : (text : List ℕ) → key_of (key_of text) ≡ key_of text
key_of-key [] = refl
key_of-key (c ∷ text) = λ i. lowered_twice c i ∷ key_of-key text i

-- ---- rows that a look-up doesn't see

module _ {R : Type 0} where
  filter-without : (p t : R → Bool) (op : R → List ℕ) (b : List ℕ) (xs : List R) → ((r : R) → p r ≡ true → t r ≡ false) → filter p (without op b t xs) ≡ filter p xs
  filter-without p t op b [] unseen = refl
  filter-without p t op b (x ∷ xs) unseen = grind (arith, filter-without p t op b xs unseen, unseen x)

and_false : (p q : Bool) → q ≡ false → p && q ≡ false
and_false p q e = grind arith

and_second : (p q : Bool) → p && q ≡ true → q ≡ true
and_second p q e = grind arith

-- the tags of other keys are the same
abbrev pub AreSame : List ℕ → List TagRow → List TagRow → Type 0
AreSame key old new = (a k : List ℕ) → k ≢ key → tag_in a k new ≡ tag_in a k old

tag-put : (b key : List ℕ) (tag : Tag) (tags : List TagRow) → AreSame key tags (put (by_key tag_key) (tag_row b key tag) tags)
tag-put b key tag tags a k other =
    let p : TagRow → Bool = λ r. bytes_eq r.op a && bytes_eq r.key k in
    let r = tag_row b key tag in
    find-first p (put (by_key tag_key) r tags)
    ∙ ap first (filter-put_not (by_key tag_key) p (ties_key tag_key (λ ks. bytes_eq (head ks) a && bytes_eq (second ks) k)) r tags (and_false (bytes_eq b a) (bytes_eq key k) (other_text key k (λ q. other (sym q)))))
    ∙ sym (find-first p tags)

tag-dropped : (b key : List ℕ) (tags : List TagRow) → AreSame key tags (without (λ r. r.op) b (λ r. bytes_eq r.key key) tags)
tag-dropped b key tags a k other =
    let p : TagRow → Bool = λ r. bytes_eq r.op a && bytes_eq r.key k in
    find-first p (without (λ r. r.op) b (λ r. bytes_eq r.key key) tags)
    ∙ ap first (filter-without p (λ r. bytes_eq r.key key) (λ r. r.op) b tags (λ r e. other_text r.key key (λ q. other (sym (same_text r.key k (and_second (bytes_eq r.op a) (bytes_eq r.key k) e)) ∙ q))))
    ∙ sym (find-first p tags)

-- ---- an operator's own tag

module _ (key : List ℕ) (old new : List TagRow) (same : AreSame key old new) where
  parent_same : (a : List ℕ) (parent : Option (List ℕ)) → IfSome parent (λ p. key_of p ≢ key) → is_parent_blocked (λ k. is_blocked (tag_in a k new)) parent ≡ is_parent_blocked (λ k. is_blocked (tag_in a k old)) parent
  parent_same a None apart = refl
  parent_same a (Some p) apart = ap is_blocked (same a (key_of p) apart)

  by_row : (a : List ℕ) (o : Option TagRow) → IsParentApart key (option_map (λ r. effective (λ k. is_blocked (tag_in a k old)) r.tag) o) → option_map (λ r. effective (λ k. is_blocked (tag_in a k new)) r.tag) o ≡ option_map (λ r. effective (λ k. is_blocked (tag_in a k old)) r.tag) o
  by_row a None apart = refl
  by_row a (Some r) apart = λ i. Some (record { text = r.tag.text; parent = r.tag.parent; blocked = r.tag.blocked || parent_same a r.tag.parent apart i; expiry = r.tag.expiry; owner = None })

  pub own_same : (a k : List ℕ) → k ≢ key → IsParentApart key (own_tag_in a k old) → own_tag_in a k new ≡ own_tag_in a k old
  own_same a k other apart = ap (option_map (λ r. effective (λ p. is_blocked (tag_in a p new)) r.tag)) (same a k other) ∙ by_row a (tag_in a k old) apart

  -- ---- a tag that is granted

  first_same : (k : List ℕ) → k ≢ key → (gs : List GrantRow) → AllByRecursion (λ g. g.key ≡ k) gs → IsParentApart key (first (filter_map (info_by old) gs)) → first (filter_map (info_by new) gs) ≡ first (filter_map (info_by old) gs)
  first_same k other [] all apart = refl
  first_same k other (g ∷ gs) all apart =
      (elim (own_tag_in g.op g.key old) as (λ o. own_tag_in g.op g.key old ≡ o → IsParentApart key (first (cons_option (option_map (granted_until g.op g.until) o) (filter_map (info_by old) gs))) → first (cons_option (info_by new g) (filter_map (info_by new) gs)) ≡ first (cons_option (option_map (granted_until g.op g.until) o) (filter_map (info_by old) gs))) [
        | None ↦ λ e near. ap (λ o. first (cons_option (option_map (granted_until g.op g.until) o) (filter_map (info_by new) gs))) (own_same g.op g.key (λ q. other (sym all.0 ∙ q)) (subst (IsParentApart key) (sym e) tt) ∙ e) ∙ first_same k other gs all.1 near
        | Some info ↦ λ e near. ap (λ o. first (cons_option (option_map (granted_until g.op g.until) o) (filter_map (info_by new) gs))) (own_same g.op g.key (λ q. other (sym all.0 ∙ q)) (subst (IsParentApart key) (sym e) near) ∙ e)
      ]) refl apart

  of_that_key : (a k : List ℕ) (gs : List GrantRow) → AllByRecursion (λ g. g.key ≡ k) (grants_of_key a k gs)
  of_that_key a k [] = tt
  of_that_key a k (g ∷ gs) =
      elim (bytes_eq g.to a && bytes_eq g.key k) as (λ b. bytes_eq g.to a && bytes_eq g.key k ≡ b → AllByRecursion (λ g. g.key ≡ k) (cond b (g ∷ grants_of_key a k gs) (grants_of_key a k gs))) [
        | true ↦ λ e. (same_text g.key k (and_second (bytes_eq g.to a) (bytes_eq g.key k) e), of_that_key a k gs)
        | false ↦ λ e. of_that_key a k gs
      ] refl

  -- the grants of other keys are the same
  abbrev pub AreSameGrants : List GrantRow → List GrantRow → Type 0
  AreSameGrants gs hs = (a k : List ℕ) → k ≢ key → grants_of_key a k hs ≡ grants_of_key a k gs

  granted_same : (a k : List ℕ) (gs hs : List GrantRow) → AreSameGrants gs hs → k ≢ key → IsParentApart key (granted_tag_in a k old gs) → granted_tag_in a k new hs ≡ granted_tag_in a k old gs
  unfolding granted_tag_in
  granted_same a k gs hs grants other apart = ap (λ xs. first (filter_map (info_by new) xs)) (grants a k other) ∙ first_same k other (grants_of_key a k gs) (of_that_key a k gs) apart

  pub answered_same : (how : LookUp) (a k : List ℕ) (gs hs : List GrantRow) → AreSameGrants gs hs → k ≢ key → IsParentApart key (answered how a k old gs) → answered how a k new hs ≡ answered how a k old gs
  answered_same Own a k gs hs grants other apart = own_same a k other apart
  answered_same Granted a k gs hs grants other apart = granted_same a k gs hs grants other apart

-- ---- grants

abbrev of_key : List ℕ → List ℕ → GrantRow → Bool
of_key a k r = bytes_eq r.to a && bytes_eq r.key k

grant-put : (b key to : List ℕ) (until : Option ℕ) (gs : List GrantRow) (a k : List ℕ) → k ≢ key → grants_of_key a k (put (by_key grant_key) (grant_row b key to until) gs) ≡ grants_of_key a k gs
grant-put b key to until gs a k other =
    filter-put_not (by_key grant_key) (of_key a k) (ties_key grant_key (λ ks. bytes_eq (third ks) a && bytes_eq (second ks) k)) (grant_row b key to until) gs (and_false (bytes_eq to a) (bytes_eq key k) (other_text key k (λ q. other (sym q))))

apart_key : (a k key : List ℕ) (r : GrantRow) → k ≢ key → of_key a k r ≡ true → bytes_eq r.key key ≡ false
apart_key a k key r other e = other_text r.key key (λ q. other (sym (same_text r.key k (and_second (bytes_eq r.to a) (bytes_eq r.key k) e)) ∙ q))

grants-dropped : (b key : List ℕ) (gs : List GrantRow) (a k : List ℕ) → k ≢ key → grants_of_key a k (without (λ r. r.op) b (λ r. bytes_eq r.key key) gs) ≡ grants_of_key a k gs
grants-dropped b key gs a k other = filter-without (of_key a k) (λ r. bytes_eq r.key key) (λ r. r.op) b gs (λ r. apart_key a k key r other)

grant-dropped : (b key to : List ℕ) (gs : List GrantRow) (a k : List ℕ) → k ≢ key → grants_of_key a k (without (λ r. r.op) b (is_grant key to) gs) ≡ grants_of_key a k gs
grant-dropped b key to gs a k other =
    filter-without (of_key a k) (is_grant key to) (λ r. r.op) b gs (λ r e. ap (λ x. x && bytes_eq r.to to) (apart_key a k key r other e))

-- ---- the edits

apart_by : (key : List ℕ) (rows : Rows) (answer : TagAnswer) → IsApart key answer → IsRight rows answer → IsParentApart key (answered answer.look_up answer.op answer.key rows.tags rows.grants)
apart_by key rows answer apart right = subst (IsParentApart key) right apart.parent

-- an edit of no tag, or of one that an answer doesn't depend on, leaves it right
pub kept_right : (b : List ℕ) (e : Edit) (rows : Rows) (answer : TagAnswer) → IfSome (touched e) (λ key. IsApart key answer) → IsRight rows answer → IsRight (edit b e rows) answer
kept_right b (Tags (TagPut k tag)) rows answer apart right =
    right ∙ sym (answered_same k rows.tags (put (by_key tag_key) (tag_row b k tag) rows.tags) (tag-put b k tag rows.tags) answer.look_up answer.op answer.key rows.grants rows.grants (λ a j o. refl) apart.key (apart_by k rows answer apart right))
kept_right b (Tags (TagDropped k)) rows answer apart right =
    right ∙ sym (answered_same k rows.tags (without (λ r. r.op) b (λ r. bytes_eq r.key k) rows.tags) (tag-dropped b k rows.tags) answer.look_up answer.op answer.key rows.grants (without (λ r. r.op) b (λ r. bytes_eq r.key k) rows.grants) (grants-dropped b k rows.grants) apart.key (apart_by k rows answer apart right))
kept_right b (Tags (GrantPut k to until)) rows answer apart right =
    right ∙ sym (answered_same k rows.tags rows.tags (λ a j o. refl) answer.look_up answer.op answer.key rows.grants (put (by_key grant_key) (grant_row b k to until) rows.grants) (grant-put b k to until rows.grants) apart.key (apart_by k rows answer apart right))
kept_right b (Tags (GrantDropped k to)) rows answer apart right =
    right ∙ sym (answered_same k rows.tags rows.tags (λ a j o. refl) answer.look_up answer.op answer.key rows.grants (without (λ r. r.op) b (is_grant k to) rows.grants) (grant-dropped b k to rows.grants) apart.key (apart_by k rows answer apart right))
kept_right b (Stations (ReportSeen station status moment)) rows answer apart right = right
kept_right b (Transactions (MeterValuesAdded station first values)) rows answer apart right = right
kept_right b (Holdings (ReservationDropped station id)) rows answer apart right = right
kept_right b e rows answer apart right = right

-- an answer about a look-up is right that has what the rows give
pub right_answer : (how : LookUp) (a k : List ℕ) (rows : Rows) (answer : TagAnswer) (info : Option Info) → IsAbout how a k answer → answer.info ≡ info → info ≡ looked_up how a k rows → IsRight rows answer
right_answer how a k rows answer info about is found = is ∙ found ∙ (λ i. looked_up (sym about.look_up i) (sym about.op i) (sym about.key i) rows)
