use Rattle.std.proofs.Common.{◌≡◌, [], ◌++◌, codes, string_bytes, ap, ◌∙◌, rules}
use Rattle.jiff.specs.Names.{iso_datetime_text}
use Rattle.ocpp_types.specs.Time.{time_of}
use Rattle.ocpp_types.proofs.PrintedTime.{time_of-printed, time_of-past_the_last}
use Rattle.ocpp_types.proofs.TextOfTime.{text_of_time}
use Rattle.ocpp_types.proofs.time.print_time.Goals as goal

pub returns-clause-text : goal.returns-clause-text
returns-clause-text c =
    let empty : string_bytes c.in_ok-text.text ≡ [] = search rules in
    c.in_ok-write.ensures.bytes ∙ ap (λ s. s ++ (iso_datetime_text c.civil_time-civil.result ++ codes "Z")) empty
    ∙ text_of_time c.args.moment c.civil_time-civil.result c.civil_time-civil.ensures

pub returns-clause-reads_back : goal.returns-clause-reads_back
returns-clause-reads_back c =
    let empty : string_bytes c.in_ok-text.text ≡ [] = search rules in
    let printed = c.in_ok-write.ensures.bytes ∙ ap (λ s. s ++ (iso_datetime_text c.civil_time-civil.result ++ codes "Z")) empty in
    λ held. ap time_of printed ∙ time_of-printed c.args.moment c.civil_time-civil.result c.civil_time-civil.ensures held

pub returns-clause-not_read : goal.returns-clause-not_read
returns-clause-not_read c =
    let empty : string_bytes c.in_ok-text.text ≡ [] = search rules in
    let printed = c.in_ok-write.ensures.bytes ∙ ap (λ s. s ++ (iso_datetime_text c.civil_time-civil.result ++ codes "Z")) empty in
    λ late. ap time_of printed ∙ time_of-past_the_last c.args.moment c.civil_time-civil.result c.civil_time-civil.ensures late
