-- How vendors' messages are answered: nothing changes.
use Rattle.std.specs.Prelude.{None}
use Rattle.ocpp_payload.specs.declared.conf.Conf.TheVariants as conf
use Rattle.ocpp_payload.specs.declared.request.DataTransfer.{DataTransfer}
use Rattle.registry.specs.declared.decision.Decision.{Decision}
use Rattle.registry.specs.declared.decision.Reply.TheVariants.{Conf}
use Rattle.station_calls.specs.declared.vendor.VendorAnswer.{VendorAnswer}
use Rattle.station_calls.specs.Vendors.{Answers}

abbrev pub transfer_decision : VendorAnswer → Decision
transfer_decision a = record { reply = Conf (conf.DataTransfer a.status a.content); edit = None }

abbrev pub transfer_rule : Answers → DataTransfer → Decision
transfer_rule answers r = transfer_decision (answers r.vendor_id r.message_id r.content)
