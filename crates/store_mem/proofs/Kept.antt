-- What holds before and after a step holds whatever the step answers.
use Rattle.std.proofs.Common.{◌≡◌, Result, Ok, Err, OnOk, OnErr, subst, sym}

pub by_result : {T E X : Type 0} (P : X → Type 0) (r : Result T E) (new next old : X) → P next → P old → OnOk r (new ≡ next) → OnErr r (new ≡ old) → P new
by_result P (Ok x) new next old after before to same = subst P (sym to) after
by_result P (Err e) new next old after before to same = subst P (sym same) before

-- what follows in case of success
pub on_ok : {T E P Q : Type 0} (r : Result T E) → (P → Q) → OnOk r P → OnOk r Q
on_ok (Ok x) follows holds = follows holds
on_ok (Err e) follows holds = tt

-- what holds anyway holds in case of an error
pub on_err : {T E : Type 0} (P : Type 0) (r : Result T E) → P → OnErr r P
on_err P (Ok x) holds = tt
on_err P (Err e) holds = holds
