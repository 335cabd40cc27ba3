-- Rules picked by their numbers (docs/RULES.md, "book and show"). Assumes nothing.
--
--   pricing_map c      the map that a chosen pricing rule stands for
--   sharing_map c      the map that a chosen sharing rule stands for
--   rules_checks p d s the checks of the three numbers, in order: those of the pricing rule, then that of the sharing rule
--   rules_chosen p d s the rules that they pick, where the checks pass
--   chosen o a         the refusal o, if there is one, or else what is chosen
use Rattle.std.specs.Prelude.{ℕ, cond, List, [], ◌∷◌, ◌++◌, ℤ, pos, Some, None, Ok, Err, Option, Result, nat_le, unsigned_abs}
use Rattle.pricing.specs.Prices.{PriceMap}
use Rattle.pricing.specs.Rules.{ladder, regulating}
use Rattle.sharing.specs.Rules.{largest_remainder, running}
use Rattle.entries.specs.Fields.{Check, between, value_check, within}
use Rattle.entries.specs.States.{same}
use Rattle.entries.specs.declared.refusal.Refusal.{Refusal}
use Rattle.rules.specs.declared.choice.ChosenPricing.{ChosenPricing}
use Rattle.rules.specs.declared.choice.ChosenPricing.TheVariants.{Regulating, Ladder}
use Rattle.rules.specs.declared.choice.ChosenSharing.{ChosenSharing}
use Rattle.rules.specs.declared.choice.ChosenSharing.TheVariants.{Running, LargestRemainder}
use Rattle.rules.specs.declared.choice.Rules.{Rules}

-- the map of a chosen pricing rule; a default out of range, which no chosen rule has, prices as 0 does
abbrev pub pricing_map : ChosenPricing → PriceMap
pricing_map (Regulating default) = regulating (cond (nat_le (unsigned_abs default) 99999) default (pos 0))
pricing_map Ladder = ladder

-- the map of a chosen sharing rule
abbrev pub sharing_map : ChosenSharing → ℤ → List ℕ → List ℤ
sharing_map Running = running
sharing_map LargestRemainder = largest_remainder

-- 4 for the pricing rule's number and the default, then for the sharing rule's number
abbrev pub pricing_checks : ℤ → ℤ → List Check
pricing_checks pricing default = value_check (between 1 2) pricing ∷ value_check (within 99999) default ∷ []

abbrev pub sharing_checks : ℤ → List Check
sharing_checks sharing = value_check (between 1 2) sharing ∷ []

abbrev pub rules_checks : ℤ → ℤ → ℤ → List Check
rules_checks pricing default sharing = pricing_checks pricing default ++ sharing_checks sharing

-- rule 1 or rule 2 of each kind
abbrev pub pricing_chosen : ℤ → ℤ → ChosenPricing
pricing_chosen pricing default = cond (same pricing (pos 1)) (Regulating default) Ladder

abbrev pub sharing_chosen : ℤ → ChosenSharing
sharing_chosen sharing = cond (same sharing (pos 1)) Running LargestRemainder

abbrev pub rules_chosen : ℤ → ℤ → ℤ → Rules
rules_chosen pricing default sharing = record { pricing = pricing_chosen pricing default; sharing = sharing_chosen sharing }

-- the first check that fails, or what is chosen
abbrev pub chosen : {A : Type 0} → Option Refusal → A → Result A Refusal
chosen (Some refusal) a = Err refusal
chosen None a = Ok a
