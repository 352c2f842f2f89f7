use Rattle.std.proofs.Common.{subst, ◌≡◌, ◌∙◌, sym, ap, ◌++◌, List, ℕ, [], take, drop, refl, append_assoc}
use Rattle.std.proofs.lemmas.List.{take-append-drop}
use mathlib.Core.List.{append-nil}
use Rattle.std.proofs.lemmas.Grind.{flat_map-append}
use Rattle.hub_events.specs.declared.out.Out.{Out}
use Rattle.replay.specs.Run.{Begins, told_lines, AppendsFront, Stands, Falls}
use Rattle.std.specs.Io.KnownBytes.{Appends, Keeps}
use Rattle.std.specs.Prelude.{Option, Some, None, OnErr, Result, Ok, Err}

pub begins : (xs ys : List ℕ) → Begins xs (xs ++ ys)
begins xs ys = record { more = ys; is = refl }

told_split : (xs ys : List Out) → told_lines (xs ++ ys) ≡ told_lines xs ++ told_lines ys
told_split xs ys = flat_map-append _ xs ys

-- what has been appended up to i, and the rest
pub front_of : (outs : List Out) (i : ℕ) (old now : List ℕ) → now ≡ old ++ told_lines (take i outs) → Begins now (old ++ told_lines outs)
front_of outs i old now e = record {
  more = told_lines (drop i outs);
  is = ap (λ t. t ++ told_lines (drop i outs)) e
      ∙ append_assoc old (told_lines (take i outs)) (told_lines (drop i outs))
      ∙ ap (λ t. old ++ t) (sym (told_split (take i outs) (drop i outs)) ∙ ap (λ o. told_lines o) (take-append-drop i outs));
}

pub on_err : {T E : Type 0} (P : Type 0) (r : Result T E) → P → OnErr r P
on_err P (Ok x) p = tt
on_err P (Err e) p = p

-- done has been appended, and the rest of text hasn't
pub record Wrote (old now : Option (List ℕ)) (text rest : List ℕ) : Type 0 where
  pub done : List ℕ
  pub split : text ≡ done ++ rest
  pub appends : Appends old now done

appends_none : (old : Option (List ℕ)) → Appends old old []
appends_none None = tt
appends_none (Some xs) = sym (append-nil xs)

appends_both : (a b c : Option (List ℕ)) (xs ys : List ℕ) → Appends a b xs → Appends b c ys → Appends a c (xs ++ ys)
appends_both None b c xs ys p q = tt
appends_both (Some x) None c xs ys p q = absurd p
appends_both (Some x) (Some y) None xs ys p q = absurd q
appends_both (Some x) (Some y) (Some z) xs ys p q = q ∙ ap (λ t. t ++ ys) p ∙ append_assoc x xs ys

appends_kept : (a b c : Option (List ℕ)) (xs : List ℕ) → Appends a b xs → Keeps b c → Appends a c xs
appends_kept None b c xs p q = tt
appends_kept (Some x) None c xs p q = absurd p
appends_kept (Some x) (Some y) None xs p q = absurd q
appends_kept (Some x) (Some y) (Some z) xs p q = q ∙ p

pub wrote_none : (old : Option (List ℕ)) (text : List ℕ) → Wrote old old text text
wrote_none old text = record { done = []; split = refl; appends = appends_none old }

pub wrote_more : (old now new : Option (List ℕ)) (text rest : List ℕ) (n : ℕ) → Wrote old now text rest → Appends now new (take n rest) → Wrote old new text (drop n rest)
wrote_more old now new text rest n w a = record {
  done = w.done ++ take n rest;
  split = w.split ∙ ap (λ r. w.done ++ r) (sym (take-append-drop n rest)) ∙ sym (append_assoc w.done (take n rest) (drop n rest));
  appends = appends_both old now new w.done (take n rest) w.appends a;
}

pub wrote_front : (old now new : Option (List ℕ)) (text rest : List ℕ) → Wrote old now text rest → Keeps now new → AppendsFront old new text
wrote_front old now new text rest w k = record {
  front = w.done;
  begins = record { more = rest; is = sym w.split };
  appends = appends_kept old now new w.done w.appends k;
}

pub wrote_all : (old now : Option (List ℕ)) (text rest : List ℕ) → Wrote old now text rest → rest ≡ [] → Appends old now text
wrote_all old now text rest w e = subst (Appends old now) (sym (w.split ∙ ap (λ r. w.done ++ r) e ∙ append-nil w.done)) w.appends

-- what is appended goes from ahead to now
pub stands_more : (start old new : Option (List ℕ)) (text ahead whole : List ℕ) → Appends old new text → Stands start old (text ++ ahead) whole → Stands start new ahead whole
stands_more None old new text ahead whole a s = tt
stands_more (Some x) None new text ahead whole a s = absurd s
stands_more (Some x) (Some y) None text ahead whole a s = absurd a
stands_more (Some x) (Some y) (Some z) text ahead whole a s = record { done = s.done ++ text; now = a ∙ ap (λ t. t ++ text) s.now ∙ append_assoc x s.done text; all = append_assoc s.done text ahead ∙ s.all }

-- the same, for a front of it
pub stands_front : (start old new : Option (List ℕ)) (text text' ahead whole : List ℕ) → AppendsFront old new text → text' ≡ [] → Stands start old (text ++ ahead) whole → Falls start new text' whole
stands_front start old new text text' ahead whole a e s =
    let at' : Stands start new (a.begins.more ++ ahead) whole = stands_more start old new a.front (a.begins.more ++ ahead) whole a.appends (subst (λ t. Stands start old t whole) (sym (ap (λ t. t ++ ahead) a.begins.is) ∙ append_assoc a.front a.begins.more ahead) s) in
    record {
      ahead = a.begins.more ++ ahead;
      stands = subst (λ t. Stands start new (t ++ (a.begins.more ++ ahead)) whole) (sym e) at';
    }

-- a front that is held already
pub stands_begins : (start now : Option (List ℕ)) (text before whole : List ℕ) → Begins text before → Stands start now before whole → Falls start now text whole
stands_begins start now text before whole b s = record { ahead = b.more; stands = subst (λ t. Stands start now t whole) (sym b.is) s }

pub stands_kept : (start old new : Option (List ℕ)) (ahead whole : List ℕ) → Keeps old new → Stands start old ahead whole → Stands start new ahead whole
stands_kept None old new ahead whole a s = tt
stands_kept (Some x) None new ahead whole a s = absurd s
stands_kept (Some x) (Some y) None ahead whole a s = absurd a
stands_kept (Some x) (Some y) (Some z) ahead whole a s = record { done = s.done; now = a ∙ s.now; all = s.all }

pub stands_start : (start : Option (List ℕ)) (whole : List ℕ) → Stands start start whole whole
stands_start None whole = tt
stands_start (Some xs) whole = record { done = []; now = sym (append-nil xs); all = refl }

pub stands_all : (start now : Option (List ℕ)) (whole : List ℕ) → Stands start now [] whole → Appends start now whole
stands_all None now whole s = tt
stands_all (Some xs) None whole s = absurd s
stands_all (Some xs) (Some ys) whole s = s.now ∙ ap (λ d. xs ++ d) (sym (append-nil s.done) ∙ s.all)

pub stands_part : (start now : Option (List ℕ)) (ahead whole : List ℕ) → Stands start now ahead whole → AppendsFront start now whole
stands_part None now ahead whole s = record { front = []; begins = record { more = whole; is = refl }; appends = tt }
stands_part (Some xs) None ahead whole s = absurd s
stands_part (Some xs) (Some ys) ahead whole s = record { front = s.done; begins = record { more = ahead; is = s.all }; appends = s.now }

pub falls_part : (start now : Option (List ℕ)) (text whole : List ℕ) → Falls start now text whole → AppendsFront start now whole
falls_part start now text whole f = stands_part start now (text ++ f.ahead) whole f.stands
