use Rattle.meta_types.specs.declared.lane.Int.TheVariants.{I8, I16, I32, I64, I128}
use Rattle.meta_types.specs.declared.lane.Float.TheVariants.{F16, F32, F64, F128}
use Rattle.meta_types.proofs.LaneNames.{int_named, float_named}
use Rattle.meta_types.proofs.lane.LaneType.name.Goals as goal

pub returns-in-Int-I8 : goal.returns-in-Int-I8
returns-in-Int-I8 c = int_named _ _ I8 c.in-Int-I8.is (rw c.in-Int-I8.is at c.in-Int-I8.field-0-is)

pub returns-in-Int-I16 : goal.returns-in-Int-I16
returns-in-Int-I16 c = int_named _ _ I16 c.in-Int-I16.is (rw c.in-Int-I16.is at c.in-Int-I16.field-0-is)

pub returns-in-Int-I32 : goal.returns-in-Int-I32
returns-in-Int-I32 c = int_named _ _ I32 c.in-Int-I32.is (rw c.in-Int-I32.is at c.in-Int-I32.field-0-is)

pub returns-in-Int-I64 : goal.returns-in-Int-I64
returns-in-Int-I64 c = int_named _ _ I64 c.in-Int-I64.is (rw c.in-Int-I64.is at c.in-Int-I64.field-0-is)

pub returns-in-Int-I128 : goal.returns-in-Int-I128
returns-in-Int-I128 c = int_named _ _ I128 c.in-Int-I128.is (rw c.in-Int-I128.is at c.in-Int-I128.field-0-is)

pub returns-in-Float-F16 : goal.returns-in-Float-F16
returns-in-Float-F16 c = float_named _ _ F16 c.in-Float-F16.is (rw c.in-Float-F16.is at c.in-Float-F16.field-0-is)

pub returns-in-Float-F32 : goal.returns-in-Float-F32
returns-in-Float-F32 c = float_named _ _ F32 c.in-Float-F32.is (rw c.in-Float-F32.is at c.in-Float-F32.field-0-is)

pub returns-in-Float-F64 : goal.returns-in-Float-F64
returns-in-Float-F64 c = float_named _ _ F64 c.in-Float-F64.is (rw c.in-Float-F64.is at c.in-Float-F64.field-0-is)

pub returns-in-Float-F128 : goal.returns-in-Float-F128
returns-in-Float-F128 c = float_named _ _ F128 c.in-Float-F128.is (rw c.in-Float-F128.is at c.in-Float-F128.field-0-is)
