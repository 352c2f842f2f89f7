-- Whether two lists of granted tags are the same.
use Rattle.std.specs.Prelude.{List, Bool, ◌&&◌, ◌==◌}
use Rattle.std.specs.Cmp.Lexicographic.{pointwise}
use Rattle.std.specs.Option.{option_eq}
use Rattle.std.specs.Str.{bytes_eq}
use Rattle.std.proofs.Math.Bool.{beq}
use Rattle.hub_rows.specs.declared.info.GrantedTag.{GrantedTag}
use Rattle.hub_rows.specs.declared.info.Info.{Info}

abbrev pub is_same_info : Info → Info → Bool
is_same_info i j = (bytes_eq i.text j.text && option_eq bytes_eq i.parent j.parent) && (beq i.blocked j.blocked && (option_eq (λ m n. m == n) i.expiry j.expiry && option_eq bytes_eq i.owner j.owner))

-- the key, the owner and all that counts of the tag
abbrev pub is_same : GrantedTag → GrantedTag → Bool
is_same e f = (bytes_eq e.key f.key && bytes_eq e.owner f.owner) && is_same_info e.info f.info

abbrev pub are_same : List GrantedTag → List GrantedTag → Bool
are_same = pointwise is_same
