-- What the table plans fits the records.
use Rattle.std.specs.Prelude.{◌≡◌, ℕ, Bool, List, Some}
use Rattle.std.specs.Option.{ForSome}
use Rattle.hub_rows.specs.Changes.{EditFits}
use Rattle.hub_rows.specs.WellFormed.{WellFormedRows}
use Rattle.station_calls.specs.Vendors.{Answers}
use Rattle.hub_events.specs.declared.event.What.{What}
use Rattle.plans.specs.declared.plan.Effect.{Effect}
use Rattle.plans.specs.declared.plan.Effect.TheVariants as effect
use Rattle.plans.specs.declared.plan.Plan.{Plan}
use Rattle.hub.specs.Effects.{edit_of}
use Rattle.event_plans.specs.Table.{plan}
use Rattle.hub.specs.World.{World, facts_at}
use Rattle.event_plans.proofs.Fitting.{EffectFits, connected_in, option_fits, plan_fits}

-- what the facts over a world allow, its records allow
fits_rows : (m first : ℕ) (b : List ℕ) (w : World) → WellFormedRows w.rows → (e : Effect) → EffectFits m (facts_at first b w) e → ForSome (edit_of e) (λ d. EditFits b d w.rows)
fits_rows m first b w good effect.Nothing fits = λ d same. absurd (cc)
fits_rows m first b w good (effect.Edit e) fits = option_fits (connected_in (facts_at first b w)) m b w.rows good (Some e) fits
fits_rows m first b w good (effect.Connect station) fits = λ d same. absurd (cc)
fits_rows m first b w good (effect.Disconnect station) fits = λ d same. absurd (cc)
fits_rows m first b w good (effect.Submit station command text) fits = λ d same. absurd (cc)
fits_rows m first b w good (effect.Answer station id outcome edit) fits = option_fits (connected_in (facts_at first b w)) m b w.rows good edit fits

pub edit_of_plan_fits : (first : ℕ) (is_hosted : List ℕ → Bool) (answers : Answers) (b : List ℕ) (what : What) (m : ℕ) (w : World) → WellFormedRows w.rows → (p : Plan) → p ≡ plan is_hosted answers what m (facts_at first b w) → ForSome (edit_of p.effect) (λ e. EditFits b e w.rows)
edit_of_plan_fits first is_hosted answers b what m w good p is = rw is (fits_rows m first b w good (plan is_hosted answers what m (facts_at first b w)).effect (plan_fits is_hosted answers what m (facts_at first b w)))
