-- The marked figures of document 01: one table of questions and answers, and one claim that the definitions answer so. Then some more.
use Rattle.std.specs.Prelude.{ℕ, ◌≡◌, refl, List, [], ◌∷◌, map}
use Rattle.numbers.specs.Rounding.{nearest}
use Rattle.numbers.specs.Sums.{sum_to}
use Rattle.products.specs.Products.{price_limit, IR, BB, IB, YT, XT, XX, products, same_code, find_in, find}
use Rattle.pricing.specs.Prices.{par, yield_at}
use Rattle.pricing.specs.Ladder.{factor, annuity, bracket}
use Rattle.pricing.specs.Value.{scale, bill_dividend, bill_divisor, bond_divisor, value_by}
use Rattle.pricing.specs.Calls.{Answer, given, refused, value_of, tick_value_of, bracket_of}
use Rattle.products.specs.declared.table.Code.{Code}

-- what is asked at a price: a value, a tick value, a bracket, or the ladder's Vk
pub data Question : Type 0 where
  value_at : Code → ℕ → Question
  tick_value_at : Code → ℕ → Question
  bracket_at : Code → ℕ → Question
  factor_at : ℕ → ℕ → Question

unfoldable pub answer_to : Question → Answer
answer_to (value_at code p) = value_of code p
answer_to (tick_value_at code p) = tick_value_of code p
answer_to (bracket_at code p) = bracket_of code p
answer_to (factor_at k p) = given (factor scale (bond_divisor p) k)

pub record Figure : Type 0 where
  pub question : Question
  pub answer : Answer

infix 4 ◌gives◌
abbrev ◌gives◌ : Question → Answer → Figure
question gives answer = record { question = question; answer = answer }

unfoldable pub figures : List Figure
figures =
    (value_at IR 950_000 gives given 98_782_138)
    ∷ (value_at IR 950_100 gives given 98_784_544)
    ∷ (tick_value_at IR 950_000 gives given 2_406)
    ∷ (value_at IR 1_000_000 gives given 100_000_000)
    ∷ (tick_value_at IR 1_000_000 gives refused 15 0)
    ∷ (value_at IR 0 gives given 80_219_780)
    ∷ (value_at IB 950_000 gives given 23_427_000)
    ∷ (tick_value_at IB 950_000 gives given 1_233)
    ∷ (factor_at 1 940_000 gives given 97_087_379)
    ∷ (factor_at 2 940_000 gives given 94_259_592)
    ∷ (factor_at 3 940_000 gives given 91_514_167)
    ∷ (factor_at 4 940_000 gives given 88_848_706)
    ∷ (factor_at 5 940_000 gives given 86_260_880)
    ∷ (factor_at 6 940_000 gives given 83_748_427)
    ∷ (bracket_at YT 940_000 gives given 10_000_000_153)
    ∷ (value_at YT 940_000 gives given 10_000_000)
    ∷ (value_at YT 1_000_000 gives given 11_800_000)
    ∷ (value_at XT 1_000_000 gives given 16_000_000)
    ∷ (value_at XX 1_000_000 gives given 9_000_000)
    ∷ (value_at IR 950_050 gives refused 7 0)
    ∷ (value_at IR 1_000_001 gives refused 6 0)
    ∷ []

-- Figures that document 01 does not mark, worked by the calculator: a longer ladder, each product's tick, and the order of the checks.
unfoldable pub further : List Figure
further =
    (bracket_at XT 950_000 gives given 10_779_458_755)
    ∷ (value_at XT 950_000 gives given 10_779_459)
    ∷ (bracket_at XX 955_000 gives given 9_345_161_716)
    ∷ (value_at XX 955_000 gives given 4_672_581)
    ∷ (tick_value_at BB 940_000 gives given 2_394)
    ∷ (tick_value_at YT 950_000 gives given 1_399)
    ∷ (tick_value_at XT 950_000 gives given 4_081)
    ∷ (tick_value_at XX 955_000 gives given 3_134)
    ∷ (tick_value_at IR 999_900 gives given 2_466)
    ∷ (tick_value_at IR 999_950 gives refused 7 0)
    ∷ (bracket_at IR 1_000_001 gives refused 4 0)
    ∷ []

-- the definitions give each figure
abbrev pub Given : List Figure → Type 0
Given fs = map (λ f. answer_to f.question) fs ≡ map (λ f. f.answer) fs

pub figures_hold : Given figures × Given further
unfolding figures further answer_to nearest sum_to par price_limit yield_at products same_code find_in find factor annuity bracket scale
    bill_dividend bill_divisor bond_divisor value_by value_of tick_value_of bracket_of
figures_hold = (refl, refl)
