use Rattle.std.proofs.Common.{ap, refl, ◌∙◌}
use Rattle.std.specs.Prelude.{codes}
use Rattle.serde_json.specs.Data.{no_members, put, string}
use Rattle.serde_json.specs.Written.{has_float}
use Rattle.ocpp_payload.specs.Plain.{put_plain}
use Rattle.ocpp_payload.specs.Table.{written, written_plain}
use Rattle.ocpp_payload.specs.TagInfo.{id_tag_info}
use Rattle.lines.proofs.rows.entry_value.Goals as goal

pub returns-clause-no_float : goal.returns-clause-no_float
returns-clause-no_float c =
    let e = c.args.entry.now in
    ap has_float c.in_ok-value.ensures
    ∙ put_plain (codes "idTagInfo") (written id_tag_info e.info) (put (codes "idTag") (string e.tag) no_members) (written_plain id_tag_info e.info) (put_plain (codes "idTag") (string e.tag) no_members refl refl)
