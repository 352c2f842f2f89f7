use Rattle.std.proofs.Common.{ap, sym, ◌∙◌}
use Rattle.ocpp_payload.specs.Kind.{◌>>=◌, typed}
use Rattle.ocpp_payload.specs.Lists.{some_each}
use Rattle.ocpp_payload.proofs.Each.{some_each-each, gives_as}
use Rattle.ocpp_payload.proofs.lists.SomeOfKind.read.Goals as goal

pub returns : goal.returns
returns g c =
    let kind = g.K.Kind.reads c.args.self.now.0 in
    let name = c.args.field.now in
    gives_as c.each.result _ _ c.each.ensures
    (some_each-each kind name c.in-Some.items.now (sym c.is_empty.ensures ∙ c.if-is_empty.false) ∙ ap (λ o. typed name o >>= some_each kind name) c.in-Some.ensures)
