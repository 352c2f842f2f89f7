-- Answers on registrations that an edit leaves right.
use Rattle.std.specs.Prelude.{◌≡◌, ◌≢◌, ℕ, List, [], ◌∷◌, Bool, true, false, ◌&&◌, IfSome}
use Rattle.std.proofs.Common.{refl, sym, ◌∙◌, ap, subst, arith, true≢false}
use Rattle.std.specs.Option.{option_map}
use Rattle.std.specs.Str.{bytes_eq}
use Rattle.std.specs.Cmp.Lexicographic.{bytes_decides}
use Rattle.hub_rows.specs.declared.change.Edit.{Edit}
use Rattle.hub_rows.specs.declared.change.Edit.TheVariants.{Stations, Tags, Transactions, Holdings}
use Rattle.hub_rows.specs.declared.change.StationEdit.TheVariants.{StationAdded, BootSeen, PolicySet, StationDropped}
use Rattle.hub_rows.specs.declared.change.TagEdit.TheVariants.{TagDropped}
use Rattle.hub_rows.specs.declared.change.TransactionEdit.TheVariants.{MeterValuesAdded}
use Rattle.hub_rows.specs.declared.change.HoldingEdit.TheVariants.{ReservationDropped}
use Rattle.hub_rows.specs.declared.station_row.StationRow.{StationRow}
use Rattle.hub_rows.specs.Changes.{edit, new_station, with_boot, with_policy}
use Rattle.hub_rows.specs.Keyed.{by_key, changed, first, put, without}
use Rattle.hub_rows.specs.Rows.{Rows, registration_of, station_in, station_key}
use Rattle.hub_rows.proofs.GrantLaws.{second}
use Rattle.hub_rows.proofs.ListLaws.{filter-put_not, head, ties_key, same_text}
use Rattle.hub_rows.proofs.OrderLaws.{find-first}
use Rattle.hub_rows.proofs.OwnerLaws.{find-kept}
use Rattle.cached.specs.declared.station_answer.StationAnswer.{StationAnswer}
use Rattle.cached.specs.Digests.{station_digest}
use Rattle.cached.specs.StationAnswers.{changed_station, IsRegistered}

and_first : (p q : Bool) → p && q ≡ true → p ≡ true
and_first p q e = grind (arith, e)

and_second : (p q : Bool) → p && q ≡ true → q ≡ true
and_second p q e = grind (arith, e)

-- stations of different numbers are different
pub apart : (a s b t : List ℕ) → station_digest a s ≢ station_digest b t → bytes_eq a b && bytes_eq s t ≡ false
apart a s b t differ =
    elim (bytes_eq a b && bytes_eq s t) as (λ x. bytes_eq a b && bytes_eq s t ≡ x → x ≡ false) [
      | false ↦ λ e. refl
      | true ↦ λ e. absurd (differ (λ i. station_digest (same_text a b (and_first (bytes_eq a b) (bytes_eq s t) e) i) (same_text s t (and_second (bytes_eq a b) (bytes_eq s t) e) i)))
    ] refl

-- a station of that name
abbrev pub named : List ℕ → List ℕ → StationRow → Bool
named a s r = bytes_eq r.op a && bytes_eq r.station s

station-put : (a s : List ℕ) (r : StationRow) (stations : List StationRow) → named a s r ≡ false → station_in a s (put (by_key station_key) r stations) ≡ station_in a s stations
station-put a s r stations other =
    find-first (named a s) (put (by_key station_key) r stations)
    ∙ ap first (filter-put_not (by_key station_key) (named a s) (ties_key station_key (λ ks. bytes_eq (head ks) a && bytes_eq (second ks) s)) r stations other)
    ∙ sym (find-first (named a s) stations)

station-changed : (a s b t : List ℕ) (f : StationRow → StationRow) → ((r : StationRow) → ((f r).op ≡ r.op) × ((f r).station ≡ r.station)) → bytes_eq a b && bytes_eq s t ≡ false → (stations : List StationRow) → station_in a s (changed (λ r. r.op) b (λ r. bytes_eq r.station t) f stations) ≡ station_in a s stations
station-changed a s b t f same other [] = refl
station-changed a s b t f same other (r ∷ rs) =
    let rest = station-changed a s b t f same other rs in
    let is_other : named a s r ≡ true → named b t r ≡ false = λ is. subst (λ x. x ≡ false) (λ i. bytes_eq (sym (same_text r.op a (and_first (bytes_eq r.op a) (bytes_eq r.station s) is)) i) b && bytes_eq (sym (same_text r.station s (and_second (bytes_eq r.op a) (bytes_eq r.station s) is)) i) t) other in
    let stays : named a s (f r) ≡ named a s r = λ i. bytes_eq ((same r).0 i) a && bytes_eq ((same r).1 i) s in
    grind (arith, rest, is_other, stays)

station-dropped : (a s b t : List ℕ) → bytes_eq a b && bytes_eq s t ≡ false → (stations : List StationRow) → station_in a s (without (λ r. r.op) b (λ r. bytes_eq r.station t) stations) ≡ station_in a s stations
station-dropped a s b t other stations =
    find-kept (named a s) (named b t)
    (λ r is. (λ i. bytes_eq (same_text r.op a (and_first (bytes_eq r.op a) (bytes_eq r.station s) is) i) b && bytes_eq (same_text r.station s (and_second (bytes_eq r.op a) (bytes_eq r.station s) is) i) t) ∙ other) stations

both : (p q : Bool) → p ≡ true → q ≡ true → p && q ≡ true
both p q is also = grind (arith, is, also)

pub flipped : (a s b t : List ℕ) → bytes_eq a b && bytes_eq s t ≡ false → bytes_eq b a && bytes_eq t s ≡ false
flipped a s b t other =
    elim (bytes_eq b a && bytes_eq t s) as (λ x. bytes_eq b a && bytes_eq t s ≡ x → x ≡ false) [
      | false ↦ λ e. refl
      | true ↦ λ e.
          let op = (bytes_decides a b).1 (sym (same_text b a (and_first (bytes_eq b a) (bytes_eq t s) e))) in
          let name = (bytes_decides s t).1 (sym (same_text t s (and_second (bytes_eq b a) (bytes_eq t s) e))) in
          absurd (true≢false (sym (both (bytes_eq a b) (bytes_eq s t) op name) ∙ other))
    ] refl

-- an edit that changes no station, or another than that of an answer, leaves it right
pub kept_station : (b : List ℕ) (e : Edit) (rows : Rows) (answer : StationAnswer) → IfSome (changed_station e) (λ t. bytes_eq answer.op b && bytes_eq answer.station t ≡ false) → IsRegistered rows answer → IsRegistered (edit b e rows) answer
kept_station b (Stations (StationAdded station policy interval)) rows answer other right =
    right ∙ sym (ap (option_map registration_of) (station-put answer.op answer.station (new_station b station policy interval) rows.stations (flipped answer.op answer.station b station other)))
kept_station b (Stations (BootSeen station boot state)) rows answer other right =
    right ∙ sym (ap (option_map registration_of) (station-changed answer.op answer.station b station (with_boot boot state) (λ r. (refl, refl)) other rows.stations))
kept_station b (Stations (PolicySet station policy interval)) rows answer other right =
    right ∙ sym (ap (option_map registration_of) (station-changed answer.op answer.station b station (with_policy policy interval) (λ r. (refl, refl)) other rows.stations))
kept_station b (Stations (StationDropped station)) rows answer other right =
    right ∙ sym (ap (option_map registration_of) (station-dropped answer.op answer.station b station other rows.stations))
kept_station b (Tags (TagDropped key)) rows answer other right = right
kept_station b (Transactions (MeterValuesAdded station first values)) rows answer other right = right
kept_station b (Holdings (ReservationDropped station id)) rows answer other right = right
kept_station b e rows answer other right = right
