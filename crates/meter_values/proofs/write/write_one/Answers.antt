use Rattle.std.proofs.Common.{Some, ap, codes, drop}
use Rattle.json.specs.Token.{Token}
use Rattle.meter_values.specs.Written.{rows_of, members_by}
use Rattle.meter_values.proofs.TokenLaws.{adds_row, adds_object, adds_token}
use Rattle.meter_values.proofs.write.write_one.Goals as goal

pub returns : goal.returns
returns c =
    let rows = rows_of c.args.one.now in
    let out = c.end_object.new.self in
    let begin = adds_token _ c.args.out.now c.begin_object.new.self Token.begin_object c.in_ok-begin_object.ensures in
    let end = adds_token _ c.write_member-7.new.out out Token.end_object c.in_ok-end_object.ensures in
    adds_object _ _ out (members_by rows) begin
    (adds_row _ _ out (codes "value") _ _ (drop 1 rows) (ap Some c.as_str.ensures) c.in_ok-write_member.ensures
    (adds_row _ _ out (codes "context") _ _ (drop 2 rows) c.unless-context.ensures c.in_ok-write_member-2.ensures
    (adds_row _ _ out (codes "format") _ _ (drop 3 rows) c.unless-format.ensures c.in_ok-write_member-3.ensures
    (adds_row _ _ out (codes "measurand") _ _ (drop 4 rows) c.unless-measurand.ensures c.in_ok-write_member-4.ensures
    (adds_row _ _ out (codes "phase") _ _ (drop 5 rows) c.name_of.ensures c.in_ok-write_member-5.ensures
    (adds_row _ _ out (codes "location") _ _ (drop 6 rows) c.unless-location.ensures c.in_ok-write_member-6.ensures
    (adds_row _ _ out (codes "unit") _ _ (drop 7 rows) c.name_of-2.ensures c.in_ok-write_member-7.ensures end)))))))
