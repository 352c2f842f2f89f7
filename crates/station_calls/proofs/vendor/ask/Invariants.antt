use Rattle.std.proofs.Common.{◌≡◌, drop}
use Rattle.station_calls.specs.Vendors.{lent_text, answer_of}
use Rattle.station_calls.proofs.vendor.ask.Given as goal

abbrev pub invariant-loop-handler : goal.invariant-loop-handler
invariant-loop-handler g l =
    answer_of g.V.VendorHandler.view (drop l.handler-index l.vendors) l.vendor (lent_text l.message) (lent_text l.content)
    ≡ answer_of g.V.VendorHandler.view l.vendors l.vendor (lent_text l.message) (lent_text l.content)
