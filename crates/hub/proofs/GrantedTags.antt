-- Lists of granted tags are the same where the test says so.
use Rattle.std.specs.Prelude.{◌≡◌, List, Bool, true, Option, None, Some, ◌&&◌, ◌==◌}
use Rattle.std.proofs.Common.{refl, sym, ap}
use Rattle.std.specs.Bool.{Decides}
use Rattle.std.specs.Option.{option_eq}
use Rattle.std.specs.Str.{bytes_eq}
use Rattle.std.proofs.lemmas.Bool.{true≢false}
use Rattle.std.proofs.lemmas.Bool.Decides.{Decides-and, Decides-eqb, Decides-like}
use Rattle.std.proofs.lemmas.Slice.Eq.{bytes_eq-Decides, slice_eq-Decides}
use Rattle.std.proofs.Math.Bool.{beq}
use Rattle.std.specs.Cmp.{booleans_Decides}
use Rattle.hub_rows.specs.declared.info.GrantedTag.{GrantedTag}
use Rattle.hub_rows.specs.declared.info.Info.{Info}
use Rattle.hub.specs.GrantedTags.{is_same_info, is_same, are_same}

Decides-option : {X : Type 0} (E : X → X → Bool) → ((x y : X) → Decides (E x y) (x ≡ y)) → (o p : Option X) → Decides (option_eq E o p) (o ≡ p)
Decides-option E decides None None = ((λ e. refl), (λ e. refl))
Decides-option E decides None (Some y) = ((λ e. absurd (true≢false (sym e))), (λ e. absurd (cc)))
Decides-option E decides (Some x) None = ((λ e. absurd (true≢false (sym e))), (λ e. absurd (cc)))
Decides-option {X} E decides (Some x) (Some y) = ((λ e. ap Some ((decides x y).0 e)), (λ e. (decides x y).1 (inside e)))
  where
    inside : Some x ≡ Some y → x ≡ y
    inside e = cc

Decides-info : (i j : Info) → Decides (is_same_info i j) (i ≡ j)
Decides-info i j =
    Decides-like {P = ((i.text ≡ j.text) × (i.parent ≡ j.parent)) × ((i.blocked ≡ j.blocked) × ((i.expiry ≡ j.expiry) × (i.owner ≡ j.owner)))} (is_same_info i j)
    (λ e k. record { text = e.0.0 k; parent = e.0.1 k; blocked = e.1.0 k; expiry = e.1.1.0 k; owner = e.1.1.1 k })
    (λ e. (((λ k. (e k).text), (λ k. (e k).parent)), ((λ k. (e k).blocked), ((λ k. (e k).expiry), (λ k. (e k).owner)))))
    (Decides-and (bytes_eq i.text j.text && option_eq bytes_eq i.parent j.parent) (beq i.blocked j.blocked && (option_eq (λ m n. m == n) i.expiry j.expiry && option_eq bytes_eq i.owner j.owner))
    (Decides-and (bytes_eq i.text j.text) (option_eq bytes_eq i.parent j.parent) (bytes_eq-Decides i.text j.text) (Decides-option bytes_eq bytes_eq-Decides i.parent j.parent))
    (Decides-and (beq i.blocked j.blocked) (option_eq (λ m n. m == n) i.expiry j.expiry && option_eq bytes_eq i.owner j.owner) (booleans_Decides i.blocked j.blocked)
    (Decides-and (option_eq (λ m n. m == n) i.expiry j.expiry) (option_eq bytes_eq i.owner j.owner) (Decides-option (λ m n. m == n) Decides-eqb i.expiry j.expiry) (Decides-option bytes_eq bytes_eq-Decides i.owner j.owner))))

Decides-tag : (e f : GrantedTag) → Decides (is_same e f) (e ≡ f)
Decides-tag e f =
    Decides-like {P = ((e.key ≡ f.key) × (e.owner ≡ f.owner)) × (e.info ≡ f.info)} (is_same e f)
    (λ q k. record { key = q.0.0 k; owner = q.0.1 k; info = q.1 k })
    (λ q. (((λ k. (q k).key), (λ k. (q k).owner)), (λ k. (q k).info)))
    (Decides-and (bytes_eq e.key f.key && bytes_eq e.owner f.owner) (is_same_info e.info f.info)
    (Decides-and (bytes_eq e.key f.key) (bytes_eq e.owner f.owner) (bytes_eq-Decides e.key f.key) (bytes_eq-Decides e.owner f.owner)) (Decides-info e.info f.info))

pub same_granted : (es fs : List GrantedTag) → are_same es fs ≡ true → es ≡ fs
same_granted es fs e = (slice_eq-Decides Decides-tag es fs (are_same es fs) refl).0 e

pub granted_same : (es fs : List GrantedTag) → es ≡ fs → are_same es fs ≡ true
granted_same es fs e = (slice_eq-Decides Decides-tag es fs (are_same es fs) refl).1 e
