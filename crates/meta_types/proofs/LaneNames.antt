-- The names of the lane types, as they are written.
use Rattle.std.proofs.Common.{◌≡◌, ℕ, ◌∙◌, ap, sym, refl, List}
use Rattle.std.specs.Prelude.{codes}
use Rattle.std.specs.Fmt.{digits}
use Rattle.meta_types.specs.TypeParts.{name_of}
use Rattle.meta_types.specs.Lane.{lane_parts}
use Rattle.meta_types.specs.declared.lane.Int.{Int}
use Rattle.meta_types.specs.declared.lane.Int.TheVariants.{I8, I16, I32, I64, I128}
use Rattle.meta_types.specs.declared.lane.Float.{Float}
use Rattle.meta_types.specs.declared.lane.Float.TheVariants.{F16, F32, F64, F128}
use Rattle.meta_types.specs.declared.lane.LaneType.{LaneType}
use Rattle.meta_types.specs.declared.lane.LaneType.TheVariants.{Int as IntLane, Float as FloatLane}

abbrev pub int_text : Int → List ℕ
int_text I8 = codes "i8"
int_text I16 = codes "i16"
int_text I32 = codes "i32"
int_text I64 = codes "i64"
int_text I128 = codes "i128"

abbrev pub float_text : Float → List ℕ
float_text F16 = codes "f16"
float_text F32 = codes "f32"
float_text F64 = codes "f64"
float_text F128 = codes "f128"

int_name : (i : Int) → int_text i ≡ name_of (lane_parts (IntLane i))
unfolding digits
int_name I8 = refl
int_name I16 = refl
int_name I32 = refl
int_name I64 = refl
int_name I128 = refl

float_name : (f : Float) → float_text f ≡ name_of (lane_parts (FloatLane f))
unfolding digits
float_name F16 = refl
float_name F32 = refl
float_name F64 = refl
float_name F128 = refl

pub int_named : (lane : LaneType) (x i : Int) → lane ≡ IntLane x → x ≡ i → int_text i ≡ name_of (lane_parts lane)
int_named lane x i e f = int_name i ∙ sym (ap (λ l. name_of (lane_parts l)) (e ∙ ap IntLane f))

pub float_named : (lane : LaneType) (x f : Float) → lane ≡ FloatLane x → x ≡ f → float_text f ≡ name_of (lane_parts lane)
float_named lane x f e is = float_name f ∙ sym (ap (λ l. name_of (lane_parts l)) (e ∙ ap FloatLane is))
