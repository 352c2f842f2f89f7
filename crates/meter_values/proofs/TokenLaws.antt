-- What is written of a sampled value, token by token.
use Rattle.std.proofs.Common.{◌≡◌, ℕ, ◌+◌, ◌≤◌, length, drop, map, List, [], ◌∷◌, ◌++◌, Option, Some, None, Ok, refl, ap, subst, sym, ◌∙◌, append_assoc}
use Rattle.std.proofs.lemmas.List.{drop_all}
use Rattle.json.specs.Json.{Members, object}
use Rattle.json.specs.Token.{Token}
use Rattle.json.specs.Tree.{json_tokens, items_tokens, members_tokens}
use Rattle.json.specs.Value.{items_of}
use Rattle.json.specs.Written.{Written, Writes}
use Rattle.meter_values.specs.Tokens.{row_tokens, Adds}
use Rattle.meter_values.specs.Written.{members_by, object_of}
use Rattle.ocpp_types.specs.declared.sampled_value.SampledValue.{SampledValue}

both : (a b c : Written) (xs ys : List Token) → Adds a b xs → Adds b c ys → Adds a c (xs ++ ys)
both a b c xs ys first last = record {
  before = last.before ∙ first.before;
  tokens = last.tokens ∙ ap (λ ts. ts ++ ys) first.tokens ∙ append_assoc a.tokens xs ys;
}

row_first : (row : List ℕ × Option (List ℕ)) (rows : List (List ℕ × Option (List ℕ))) → row_tokens row ++ members_tokens (members_by rows) ≡ members_tokens (members_by (row ∷ rows))
row_first (name, None) rows = refl
row_first (name, Some text) rows = refl

-- a member, and then the others with the closing bracket
pub adds_row : (a b c : Written) (name : List ℕ) (text wanted : Option (List ℕ)) (rows : List (List ℕ × Option (List ℕ))) → text ≡ wanted
    → Adds a b (row_tokens (name, text)) → Adds b c (members_tokens (members_by rows)) → Adds a c (members_tokens (members_by ((name, wanted) ∷ rows)))
adds_row a b c name text wanted rows e first last =
    subst (Adds a c) (ap (λ o. row_tokens (name, o) ++ members_tokens (members_by rows)) e ∙ row_first (name, wanted) rows)
    (both a b c (row_tokens (name, text)) (members_tokens (members_by rows)) first last)

pub adds_object : (a b c : Written) (ms : Members) → Adds a b (Token.begin_object ∷ []) → Adds b c (members_tokens ms) → Adds a c (json_tokens (object ms))
adds_object a b c ms first last = both a b c (Token.begin_object ∷ []) (members_tokens ms) first last

pub adds_token : {E : Type 0} (x : Unit {0}) (a b : Written) (t : Token) → Writes {E = E} (Ok x) a b t → Adds a b (t ∷ [])
adds_token x a b t writes = record { before = writes.room.0; tokens = writes.ok }

-- ---- the array

-- what is left to write when these are left
abbrev pub left : List SampledValue → List Token
left sampled = items_tokens (items_of (map object_of sampled))

pub all_written : (ts us : List Token) (sampled : List SampledValue) (i : ℕ) → length sampled ≤ i → us ≡ ts ++ Token.end_array ∷ [] → us ≡ ts ++ left (drop i sampled)
all_written ts us sampled i past e = e ∙ ap (λ xs. ts ++ left xs) (sym (drop_all i sampled past))
