use Rattle.std.proofs.Common.{subst, sym}
use Rattle.sqlite.specs.Held.{state}
use Rattle.hub_rows.specs.Changes.{edit}
use Rattle.hub_rows.specs.declared.change.StationEdit.{StationEdit}
use Rattle.hub_rows.specs.declared.change.Edit.TheVariants.{Stations}
use Rattle.hub_rows.specs.declared.change.StationEdit.TheVariants.{StationAdded, BootSeen, PolicySet, ReaderSet, StationDropped, ConnectorSeen, ReportSeen}
use Rattle.sql_rows.specs.Kept.{Edits}
use Rattle.sql_edits.proofs.changes.edit_stations.Goals as goal

pub returns-in-StationAdded : goal.returns-in-StationAdded
returns-in-StationAdded g c =
    let it = c.in-StationAdded in
    let made = λ (e : StationEdit). Edits (edit c.args.op.now (Stations e)) (state g.S.Store c.args.conn.now) (state g.S.Store c.add_station.new.conn) c.add_station.result in
    record { edits = subst made (sym it.is) (subst (λ s. made (StationAdded s it.policy it.interval)) c.as_str.ensures c.add_station.ensures.edits) }

pub returns-in-BootSeen : goal.returns-in-BootSeen
returns-in-BootSeen g c =
    let it = c.in-BootSeen in
    let made = λ (e : StationEdit). Edits (edit c.args.op.now (Stations e)) (state g.S.Store c.args.conn.now) (state g.S.Store c.see_boot.new.conn) c.see_boot.result in
    record { edits = subst made (sym it.is) (subst (λ s. made (BootSeen s it.boot it.state)) c.as_str-in-BootSeen.ensures c.see_boot.ensures.edits) }

pub returns-in-PolicySet : goal.returns-in-PolicySet
returns-in-PolicySet g c =
    let it = c.in-PolicySet in
    let made = λ (e : StationEdit). Edits (edit c.args.op.now (Stations e)) (state g.S.Store c.args.conn.now) (state g.S.Store c.set_policy.new.conn) c.set_policy.result in
    record { edits = subst made (sym it.is) (subst (λ s. made (PolicySet s it.policy it.interval)) c.as_str-in-PolicySet.ensures c.set_policy.ensures.edits) }

pub returns-in-ReaderSet : goal.returns-in-ReaderSet
returns-in-ReaderSet g c =
    let it = c.in-ReaderSet in
    let made = λ (e : StationEdit). Edits (edit c.args.op.now (Stations e)) (state g.S.Store c.args.conn.now) (state g.S.Store c.put_reader.new.conn) c.put_reader.result in
    record { edits = subst made (sym it.is) (subst (λ s. made (ReaderSet s it.reader)) c.as_str-in-ReaderSet.ensures c.put_reader.ensures.edits) }

pub returns-in-StationDropped : goal.returns-in-StationDropped
returns-in-StationDropped g c =
    let it = c.in-StationDropped in
    let made = λ (e : StationEdit). Edits (edit c.args.op.now (Stations e)) (state g.S.Store c.args.conn.now) (state g.S.Store c.drop_station.new.conn) c.drop_station.result in
    record { edits = subst made (sym it.is) (subst (λ s. made (StationDropped s)) c.as_str-in-StationDropped.ensures c.drop_station.ensures.edits) }

pub returns-in-ConnectorSeen : goal.returns-in-ConnectorSeen
returns-in-ConnectorSeen g c =
    let it = c.in-ConnectorSeen in
    let made = λ (e : StationEdit). Edits (edit c.args.op.now (Stations e)) (state g.S.Store c.args.conn.now) (state g.S.Store c.put_connector.new.conn) c.put_connector.result in
    record { edits = subst made (sym it.is) (subst (λ s. made (ConnectorSeen s it.connector it.report)) c.as_str-in-ConnectorSeen.ensures c.put_connector.ensures.edits) }

pub returns-in-ReportSeen : goal.returns-in-ReportSeen
returns-in-ReportSeen g c =
    let it = c.in-ReportSeen in
    let made = λ (e : StationEdit). Edits (edit c.args.op.now (Stations e)) (state g.S.Store c.args.conn.now) (state g.S.Store c.put_report.new.conn) c.put_report.result in
    record { edits = subst made (sym it.is) (subst (λ s. made (ReportSeen s it.status it.moment)) c.as_str-in-ReportSeen.ensures c.put_report.ensures.edits) }
