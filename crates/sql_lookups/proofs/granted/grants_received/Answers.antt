use Rattle.sqlite.specs.Held.{state}
use Rattle.sql_rows.proofs.StoreLemmas.{commits_as, leaves_as}
use Rattle.sql_lookups.proofs.GrantedLaws.{list_received_finds}
use Rattle.sql_lookups.proofs.granted.grants_received.Goals as goal

pub returns : goal.returns
returns g c =
    let old = state g.S.Store c.args.conn.now in
    let new = state g.S.Store c.list_received.new.conn in
    let shows = c.list_received.ensures.shows in
    record {
      asks = record {
        found = λ serves up. list_received_finds (λ v. v.items) c.args.to.now old.now.trees c.list_received.result c.listed.result c.listed.ensures.ok c.listed.ensures.rows ((shows serves).ok up) ((shows serves).once up);
        same = λ serves up. leaves_as old new c.list_received.result c.listed.result c.listed.ensures.ok ((shows serves).same up);
        stops = commits_as old new c.list_received.result c.listed.result c.listed.ensures.ok (λ serves. (shows serves).stops);
      };
    }
