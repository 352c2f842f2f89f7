-- The names of the hosted operators.
use Rattle.std.specs.Prelude.{ℕ, nat_le, List, [], ◌∷◌, length, Bool, true, false, not, ◌&&◌, ◌||◌, ◌==◌}
use Rattle.std.specs.List.{list_any, list_all}
use Rattle.std.specs.Str.{bytes_eq}
use Rattle.hub_rows.specs.declared.operators.TheConstants.{MAX_OPERATOR}

-- whether operator b is among those
abbrev pub is_hosted : List (List ℕ) → List ℕ → Bool
is_hosted hosted b = list_any (λ h. bytes_eq h b) hosted

-- an ASCII letter or digit, `-` or `_`
abbrev pub is_name_byte : ℕ → Bool
is_name_byte c = (nat_le 97 c && nat_le c 122) || ((nat_le 65 c && nat_le c 90) || ((nat_le 48 c && nat_le c 57) || (c == 45 || c == 95)))

abbrev pub is_operator_name : List ℕ → Bool
is_operator_name name = nat_le 1 (length name) && nat_le (length name) MAX_OPERATOR && list_all is_name_byte name

-- names of operators, each once
abbrev pub are_distinct_names : List (List ℕ) → Bool
are_distinct_names [] = true
are_distinct_names (n ∷ ns) = is_operator_name n && not (is_hosted ns n) && are_distinct_names ns

-- what can be hosted: at least one operator
abbrev pub are_operators : List (List ℕ) → Bool
are_operators [] = false
are_operators (n ∷ ns) = are_distinct_names (n ∷ ns)
