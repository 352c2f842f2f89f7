-- The member of a tree by its name is that of its data.
use Rattle.std.proofs.Common.{◌≡◌, ℕ, List, Bool, true, false, cond, bytes_eq, true≢false, Option, Some, None, option_map, refl, sym, ap, ◌∙◌}
use Rattle.std.proofs.lemmas.Slice.Eq.{bytes_eq-Decides}
use Rattle.std.specs.Borrow.{Bor}
use Rattle.std.specs.Option.{option_or}
use Rattle.json.specs.Json as json
use Rattle.json.specs.Find as find
use Rattle.json.specs.Value.{value_view}
use Rattle.json.specs.declared.value.Value.{Value}
use Rattle.serde_json.specs.Data.{Num, Data, Members, no_members, put}
use Rattle.serde_json.specs.Find.{get, get_member}
use Rattle.serde_json.specs.Read.{number_of}
use Rattle.serde_json.proofs.Views.{get_member-put, get_member-put_other}
use Rattle.json_data.specs.View.{data_of, members_data, in_range, view}

put_found : (b : Bool) (k l : List ℕ) (j : json.Json) (found : Members) → bytes_eq l k ≡ b → get_member k (put l (data_of j) found) ≡ option_or (option_map data_of (cond b (Some j) None)) (get_member k found)
put_found true k l j found e = ap (λ n. get_member n (put l (data_of j) found)) (sym ((bytes_eq-Decides l k).0 e)) ∙ get_member-put l (data_of j) found
put_found false k l j found e = get_member-put_other k l (data_of j) found (λ same. absurd (true≢false (sym ((bytes_eq-Decides l k).1 (sym same)) ∙ e)))

later : (o p : Option json.Json) (k : List ℕ) (rest found : Option Data) → rest ≡ option_or (option_map data_of p) found → option_or (option_map data_of o) rest ≡ option_or (option_map data_of (find.later_or o p)) found
later None p k rest found e = e
later (Some j) p k rest found e = refl

member_found : (k : List ℕ) (ms : json.Members) (found : Members) → get_member k (members_data ms found) ≡ option_or (option_map data_of (find.get_member k ms)) (get_member k found)
member_found k json.no_members found = refl
member_found k (json.member l j ms) found =
    member_found k ms (put l (data_of j) found) ∙ later (find.get_member k ms) (cond (bytes_eq l k) (Some j) None) k _ _ (put_found _ k l j found refl)

or_none : (o : Option Data) → option_or o None ≡ o
or_none None = refl
or_none (Some d) = refl

number_get : (k : List ℕ) (n : Option Num) → None ≡ get k (in_range n)
number_get k None = refl
number_get k (Some n) = refl

pub get_data : (k : List ℕ) (j : json.Json) → option_map data_of (find.get k j) ≡ get k (data_of j)
get_data k json.null = refl
get_data k (json.boolean b) = refl
get_data k (json.number s) = number_get k (number_of s)
get_data k (json.string s) = refl
get_data k (json.array js) = refl
get_data k (json.object ms) = sym (member_found k ms no_members ∙ or_none _)

pub seen : {A : Type 0} → (r : Option (Bor (Value A))) → option_map (λ v. view v.now) r ≡ option_map data_of (option_map (λ v. value_view v.now) r)
seen None = refl
seen (Some v) = refl
