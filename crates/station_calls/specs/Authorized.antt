-- How a station that asks for an id tag is answered: nothing changes.
use Rattle.std.specs.Prelude.{ℕ, None}
use Rattle.ocpp_types.specs.TagKey.{key_of}
use Rattle.ocpp_payload.specs.declared.conf.Conf.TheVariants as conf
use Rattle.ocpp_payload.specs.declared.request.Authorize.{Authorize}
use Rattle.hub_rows.specs.Lookups.{Lookups}
use Rattle.id_tags.specs.declared.judgement.Purpose.TheVariants as purpose
use Rattle.id_tags.specs.Judge.{judge_rule}
use Rattle.registry.specs.declared.decision.Decision.{Decision}
use Rattle.registry.specs.declared.decision.Reply.TheVariants.{Conf}

abbrev pub authorize_rule : Authorize → ℕ → Lookups → Decision
authorize_rule r m l = record { reply = Conf (conf.Authorize (judge_rule m (key_of r.id_tag) purpose.Authorize l)); edit = None }
