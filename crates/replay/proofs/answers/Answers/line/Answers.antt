use Rattle.std.proofs.Common.{◌≡◌, ◌∙◌, ap, List, ℕ}
use Rattle.hub.specs.Hub.{world, setting}
use Rattle.hub.specs.World.{Setting, World}
use Rattle.lines.specs.InputLines.{spelled}
use Rattle.replay.specs.Held.{IsLine}
use Rattle.replay.specs.Run.{after}
use Rattle.replay.proofs.Facts.{on_err}
use Rattle.replay.proofs.Told.{told_by}
use Rattle.replay.proofs.answers.Answers.line.Goals as goal

pub returns-in_err-said-2-clause-told : goal.returns-in_err-said-2-clause-told
returns-in_err-said-2-clause-told g c = λ now.
    let st : Setting = setting g.V.VendorHandler.view c.args.hub.now in
    let w : World = world g.S.Store.view c.args.hub.now in
    let said : (line : List ℕ) → IsLine c.args.held line → c.in_ok-said.said ≡ spelled st.is_hosted line = λ line held. c.in_ok-said.ensures.said line held ∙ ap (λ h. spelled h line) c.hosted.ensures in
    on_err _ _ (told_by _ _ _ (IsLine c.args.held) _ (after st w c.in_ok-said.said) (λ line. after st w (spelled st.is_hosted line)) (λ line held. ap (after st w) (said line held)) (c.in_err-said-2.ensures.told now))
