use Rattle.std.proofs.Common.{subst, sym, ap, ◌∙◌, true≢false}
use Rattle.std.specs.Prelude.{◌≡◌, ◌≢◌, IfSome}
use Rattle.ocpp_types.specs.TagKey.{key_of}
use Rattle.cached.specs.TagAnswers.{IsParentApart}
use Rattle.cached.proofs.TagLaws.{key_of-key}
use Rattle.cached.proofs.tag_answer.has_parent.Goals as goal

pub returns-in-Some-parent : goal.returns-in-Some-parent
returns-in-Some-parent c = λ fails.
    let key = c.args.key.now in
    let parent = c.in-Some-parent.parent in
    let apart = λ (q : key_of parent ≡ key). true≢false (sym (c.eq_ignore_ascii_case.ensures.test.1 (ap key_of c.as_str.ensures ∙ sym (key_of-key parent) ∙ ap key_of q)) ∙ fails) in
    subst (IsParentApart key) (sym c.in-Some.is) (subst (λ o. IfSome o (λ p. key_of p ≢ key)) (sym c.in-Some-parent.is) apart)
