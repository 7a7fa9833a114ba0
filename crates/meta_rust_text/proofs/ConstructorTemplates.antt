-- The templates, filled, are the lines of the definitions.
use Rattle.std.proofs.Common.{◌≡◌, ℕ, List, [], ◌∷◌, refl, map}
use Rattle.meta_text.specs.Filled.{filled}
use Rattle.meta_rust_text.specs.declared.constructor.TheConstants.{CONSTRUCTOR, CONSTRUCTOR_HOLES}
use Rattle.meta_rust_text.specs.declared.imm_builders.TheConstants.{IMM_METHOD, IMM_METHOD_HOLES}
use Rattle.meta_rust_text.specs.Constructor.{constructor_with}
use Rattle.meta_rust_text.specs.ImmBuilders.{ImmMethods, extending_text}

pub constructor_same : (name displayed arguments mark members masking : List ℕ)
    → filled CONSTRUCTOR.now (map (λ h. h.now) CONSTRUCTOR_HOLES) (name ∷ displayed ∷ arguments ∷ mark ∷ members ∷ masking ∷ [])
    ≡ constructor_with name displayed arguments mark members masking
unfolding filled constructor_with
constructor_same name displayed arguments mark members masking = refl

pub imm_method_same : (m : ImmMethods) (mark suffix extension signed : List ℕ)
    → filled IMM_METHOD.now (map (λ h. h.now) IMM_METHOD_HOLES) (m.name ∷ m.control ∷ m.immediate ∷ m.docs ∷ m.arguments ∷ m.inputs
    ∷ mark ∷ suffix ∷ extension ∷ signed ∷ []) ≡ extending_text m mark suffix extension signed
unfolding filled extending_text
imm_method_same m mark suffix extension signed = refl
