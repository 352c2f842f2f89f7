use Rattle.std.proofs.Common.{◌≡◌, ◌∙◌, ap, subst}
use Rattle.sqlite.specs.Held.{state}
use Rattle.hub_rows.specs.declared.meter_value_row.MeterValueRow.{MeterValueRow}
use Rattle.sql_rows.specs.declared.reading_rows.ReadingRow.{ReadingRow}
use Rattle.sql_rows.specs.Kept.{IsDropped, IsPutIn, is_between}
use Rattle.sql_rows.specs.Opening.{as_meter_value}
use Rattle.sql_rows.specs.TypedTables.{meter_values, readings}
use Rattle.sql_rows.proofs.StayLaws.{stays_then}
use Rattle.sql_edits.proofs.Making.{makes_then}
use Rattle.sql_edits.proofs.MovingLaws.{row_moved}
use Rattle.sql_edits.proofs.moving.move_reading.Goals as goal

pub returns : goal.returns
returns g c =
    let row = c.args.row in
    let value = c.in_ok-row.row in
    let op = c.as_str-op.result.now in
    let station = c.as_str-station.result.now in
    let a = (state g.S.Store c.args.tx.now.conn.now).now.trees in
    let b = (state g.S.Store c.drop_reading.new.tx.conn.now).now.trees in
    let e = (state g.S.Store c.put_moved.new.tx.conn.now).now.trees in
    let is : value ≡ as_meter_value row = c.in_ok-row.ensures in
    let its_op : op ≡ row.op = c.as_str-op.ensures ∙ ap (λ (v : MeterValueRow). v.op) is in
    let its_station : station ≡ row.station = c.as_str-station.ensures ∙ ap (λ (v : MeterValueRow). v.station) is in
    let its_number : value.first ≡ row.number = ap (λ (v : MeterValueRow). v.first) is in
    record {
      makes = makes_then c.in_ok-drop_reading.ensures.makes c.put_moved.ensures.makes (λ inside up dropped put.
          row_moved row a b e
          (subst (λ (test : ReadingRow → _). IsDropped readings test a b) (λ i. is_between (λ r. r.op) (λ r. r.station) (λ r. r.number) (its_op i) (its_station i) (its_number i) (its_number i)) dropped)
          (subst (λ (v : MeterValueRow). IsPutIn meter_values v b e) is put));
      stays = stays_then c.in_ok-drop_reading.ensures.stays c.put_moved.ensures.stays;
    }
