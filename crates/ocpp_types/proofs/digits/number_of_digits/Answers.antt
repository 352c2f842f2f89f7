-- The parser's number is the digits' value, which 19 digits keep below 2 ^ 64.
use Rattle.std.proofs.Common.{arith, ◌≡◌, ◌^◌, ◌<◌, length, true, rules}
use Rattle.std.specs.List.{list_all}
use Rattle.std.specs.Char.{is_ascii_digit}
use Rattle.std.specs.Str.Parse.{digits_value}
use Rattle.std.proofs.lemmas.Str.Parse.{IsNumeralModel, numerals_by_value, parse_gives, digits_value_short}
use Rattle.ocpp_types.proofs.digits.number_of_digits.Goals as goal

own : IsNumeralModel (λ ds. list_all is_ascii_digit ds ≡ true) (digits_value 10)
own = numerals_by_value _ (search rules)

pub returns-clause-value : goal.returns-clause-value
returns-clause-value c =
    let all : list_all is_ascii_digit c.args.text.now ≡ true = grind arith in
    let some : 0 < length c.args.text.now = grind arith in
    let small : digits_value 10 c.args.text.now < 10 ^ 19 = digits_value_short own c.args.text.now 19 all (omega arith) in
    let e = parse_gives own 64 c.args.text.now c.parse.result c.parse.ensures.value.0 all some (omega arith) in
    grind arith

pub returns-clause-within : goal.returns-clause-within
returns-clause-within c =
    let all : list_all is_ascii_digit c.args.text.now ≡ true = grind arith in
    let small : digits_value 10 c.args.text.now < 10 ^ length c.args.text.now = digits_value_short own c.args.text.now (length c.args.text.now) all (omega arith) in
    let e = returns-clause-value c in
    grind arith
