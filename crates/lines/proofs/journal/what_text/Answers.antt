use Rattle.std.proofs.Common.{◌≡◌, ◌∙◌, List, ℕ, Some, true, subst, sym, ap, inl, inr}
use Rattle.hub_events.specs.declared.event.What.{What}
use Rattle.hub_events.specs.declared.event.What.TheVariants.{Connect, Disconnect}
use Rattle.lines.specs.Forms.{what_of}
use Rattle.lines.specs.Journal.{Says}
use Rattle.lines.specs.Orders.{is_order}
use Rattle.lines.proofs.JournalLaws.{connect_said, disconnect_said, order_what}
use Rattle.lines.proofs.journal.what_text.Goals as goal

pub returns-in_ok-format-in-Connect-clause-said : goal.returns-in_ok-format-in-Connect-clause-said
returns-in_ok-format-in-Connect-clause-said c op moment says =
    let line = c.in_ok-format-in-Connect.ensures in
    let plain = subst (λ (w : What). Says w op moment c.args.order.now) c.in-Connect.is says in
    rw c.in-Connect.is (subst (λ (t : List ℕ). what_of t ≡ Some (Connect c.in-Connect.station)) (sym line.ok) (connect_said c.in-Connect.station plain))

pub returns-in_ok-format-in-Disconnect-clause-said : goal.returns-in_ok-format-in-Disconnect-clause-said
returns-in_ok-format-in-Disconnect-clause-said c op moment says =
    let line = c.in_ok-format-in-Disconnect.ensures in
    let plain = subst (λ (w : What). Says w op moment c.args.order.now) c.in-Disconnect.is says in
    rw c.in-Disconnect.is (subst (λ (t : List ℕ). what_of t ≡ Some (Disconnect c.in-Disconnect.station)) (sym line.ok) (disconnect_said c.in-Disconnect.station plain))

pub returns-in_ok-from_str-in-Do-clause-said : goal.returns-in_ok-from_str-in-Do-clause-said
returns-in_ok-from_str-in-Do-clause-said c op moment says =
    let is : is_order c.args.what.now ≡ true = elim c.in-Do.is [
      | inl command ↦ ap is_order command.2
      | inr rest ↦ elim rest [
        | inl admin ↦ ap is_order admin.1
        | inr rest ↦ elim rest [
          | inl listing ↦ ap is_order listing.1
          | inr rest ↦ elim rest [
            | inl connections ↦ ap is_order connections
            | inr rest ↦ elim rest [
              | inl drop ↦ ap is_order drop.1
              | inr forget ↦ ap is_order forget.3
            ]
          ]
        ]
      ]
    ] in
    let line = c.in_ok-from_str-in-Do.ensures in
    let text = line.ok ∙ c.without_return.ensures in
    subst (λ (t : List ℕ). what_of t ≡ Some c.args.what.now) (sym text) (order_what c.args.what.now op moment c.args.order.now is says)
