use Rattle.std.proofs.Common.{option_map, ap, ◌∙◌}
use Rattle.json.specs.Value.{value_view}
use Rattle.json_data.specs.View.{data_of}
use Rattle.json_data.proofs.Members.{seen, get_data}
use Rattle.json_data.proofs.parts.member_of.Goals as goal

pub returns : goal.returns
returns c = seen c.get.result ∙ ap (option_map data_of) c.get.ensures ∙ get_data c.args.name.now (value_view c.args.object.now)
