use Rattle.std.proofs.Common.{◌≡◌, IfOk, None, subst}
use Rattle.hub_rows.specs.Lookups.{lookups_at}
use Rattle.id_tags.specs.Judge.{judge_with_owner}
use Rattle.id_tags.specs.declared.judgement.Purpose.TheVariants as purpose
use Rattle.charging.proofs.start.judge_new.Goals as goal

pub returns-clause-judged : goal.returns-clause-judged
returns-clause-judged g c = λ clean.
    subst (λ op. IfOk c.judge_with_owner.result (λ j. j ≡ judge_with_owner c.args.at.now.moment c.args.id.now.key (purpose.Start None) (lookups_at op (g.S.Store.view c.args.store.now).rows))) c.as_str.ensures
    (c.judge_with_owner.ensures.judged clean)
