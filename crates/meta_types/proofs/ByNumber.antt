-- Derived functions on the numbers of types.
use Rattle.std.proofs.Common.{◌≡◌, ℕ, ◌↔◌, ◌∙◌, sym, subst, subst₂}
use Rattle.meta_types.specs.TypeParts.{TypeParts, IsType, number_of}
use Rattle.meta_types.specs.Function.{Function, StepsTypes, Answers, StepsNumbers, AnswersNumber}
use Rattle.meta_types.proofs.Numbers.{one_number}

-- a step of numbers is one of the types that have them
pub steps_of_types : (f : Function) (u t : TypeParts) (c m : ℕ) (holds : Type 0) → IsType u → IsType t → number_of u ≡ c → number_of t ≡ m
    → (holds ↔ StepsTypes f u t) → (holds ↔ StepsNumbers f c m)
steps_of_types f u t c m holds from to number_from number_to h = (
  (λ x. record { from = u; to = t; steps = h.0 x; number_from = number_from; number_to = number_to }),
  (λ s. h.1 (subst₂ (StepsTypes f) (one_number s.from u s.steps.from from (s.number_from ∙ sym number_from))
      (one_number s.to t s.steps.to to (s.number_to ∙ sym number_to)) s.steps)),
)

-- no number is an answer where no type is one
pub no_number : (f : Function) (u : TypeParts) (c m : ℕ) → IsType u → number_of u ≡ c → ((t : TypeParts) → ¬ Answers f u t)
    → ¬ AnswersNumber f c m
no_number f u c m is e none h =
    none h.steps.to (record {
      is_function = h.is_function;
      steps = subst (λ x. StepsTypes f x h.steps.to) (one_number h.steps.from u h.steps.steps.from is (h.steps.number_from
          ∙ sym e)) h.steps.steps;
    })
