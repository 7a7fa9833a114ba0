-- The documentation of vectors, from that of their parts.
use Rattle.std.proofs.Common.{◌≡◌, ℕ, ◌∙◌, sym, ap, cond, List, ◌++◌}
use Rattle.std.specs.Prelude.{codes}
use Rattle.std.specs.Fmt.{decimal}
use Rattle.meta_types.specs.TypeParts.{name_of}
use Rattle.meta_types.specs.Lane.{lane_parts}
use Rattle.meta_types.specs.Vector.{lane_count, vector_parts, dynamic_parts}
use Rattle.meta_types.specs.TypeText.{lane_doc, vector_doc, dynamic_doc, type_doc}
use Rattle.meta_types.specs.declared.vector.VectorType.{VectorType}
use Rattle.meta_types.specs.declared.vector.DynamicVectorType.{DynamicVectorType}
use Rattle.meta_types.proofs.Lanes.{not_one, lane_named}

-- a vector has several lanes, so its documentation is a vector's
of_vector : (v : VectorType) → vector_doc (vector_parts v) ≡ type_doc (vector_parts v)
of_vector v =
    sym (ap (λ b. cond b (lane_doc (lane_parts v.base).kind (lane_parts v.base).width) (vector_doc (vector_parts v))) (not_one v.lanes))

of_dynamic : (v : DynamicVectorType) → dynamic_doc (dynamic_parts v) ≡ type_doc (dynamic_parts v)
of_dynamic v = sym (ap (λ b. cond b (lane_doc (lane_parts v.base).kind (lane_parts v.base).width) (dynamic_doc (dynamic_parts v)))
    (not_one v.unscaled_lanes))

pub vector_documented : (v : VectorType) (text : List ℕ) (lanes : ℕ) → lanes ≡ lane_count v.lanes
    → text ≡ codes "A SIMD vector with "
    ++ (decimal lanes ++ (codes " lanes containing a `" ++ (name_of (lane_parts v.base) ++ codes "` each.")))
    → text ≡ type_doc (vector_parts v)
vector_documented v text lanes n e =
    e ∙ (λ i. codes "A SIMD vector with "
    ++ (decimal (n i) ++ (codes " lanes containing a `" ++ (lane_named v.base i ++ codes "` each.")))) ∙ of_vector v

pub dynamic_documented : (v : DynamicVectorType) (text : List ℕ) (lanes : ℕ) → lanes ≡ lane_count v.unscaled_lanes
    → text ≡ codes "A dynamically-scaled SIMD vector with a minimum of "
    ++ (decimal lanes ++ (codes " lanes containing `" ++ (name_of (lane_parts v.base) ++ codes "` bits each.")))
    → text ≡ type_doc (dynamic_parts v)
dynamic_documented v text lanes n e =
    e ∙ (λ i. codes "A dynamically-scaled SIMD vector with a minimum of "
    ++ (decimal (n i) ++ (codes " lanes containing `" ++ (lane_named v.base i ++ codes "` bits each.")))) ∙ of_dynamic v
