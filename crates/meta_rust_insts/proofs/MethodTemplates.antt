-- The templates, filled, are the lines of the definitions.
use Rattle.std.proofs.Common.{◌≡◌, ℕ, List, [], ◌∷◌, ◌++◌, refl, map, codes, append-nil}
use Rattle.std.specs.List.{flat_map}
use Rattle.meta_text.specs.Filled.{filled}
use Rattle.meta_operands.specs.declared.format.InstructionFormat.{InstructionFormat}
use Rattle.meta_rust_insts.specs.declared.members.TheConstants.{PLAIN, BY_REFERENCE, REBUILT, REBUILT_HOLES, KEPT}
use Rattle.meta_rust_insts.specs.declared.eq_method.TheConstants.{EQ_ARM, EQ_ARM_HOLES, FIRST, SECOND, EQUAL}
use Rattle.meta_rust_insts.specs.declared.hash_method.TheConstants.{HASH_ARM, HASH_ARM_HOLES, HASHED}
use Rattle.meta_rust_insts.specs.declared.hash_method.TheConstants.{EACH_VALUE, EACH_VALUE_HOLES, EACH_BLOCK}
use Rattle.meta_rust_insts.specs.declared.hash_method.TheConstants.{EACH_BLOCK_HOLES}
use Rattle.meta_rust_insts.specs.declared.map_method.TheConstants.{MAPPED_BLOCK}
use Rattle.meta_rust_insts.specs.declared.data_impl.TheConstants.{READING, READING_HOLES, WHOLE, WHOLE_HOLES}
use Rattle.meta_rust_insts.specs.declared.data_impl.Method.TheVariants.{Opcode, TypevarOperand, Arguments, ArgumentsMut, Eq}
use Rattle.meta_rust_insts.specs.declared.data_impl.Method.TheVariants.{Hash, DeepClone, Map}
use Rattle.meta_rust_insts.specs.Held.{values_of}
use Rattle.meta_rust_insts.specs.Members.{member_filled, further, pattern_text}
use Rattle.meta_rust_insts.specs.EqMethod.{equal_member, equal_members, eq_arm}
use Rattle.meta_rust_insts.specs.HashMethod.{hashed, hashed_each_value, hashed_each_block, hashed_members, hash_arm}
use Rattle.meta_rust_insts.specs.Rebuilt.{kept}
use Rattle.meta_rust_insts.specs.DeepCloneMethod.{clone_pattern, cloned_members, clone_arm}
use Rattle.meta_rust_insts.specs.MapMethod.{mapped, mapped_members, map_arm}
use Rattle.meta_rust_insts.specs.Arms.{method_arm}
use Rattle.meta_rust_insts.specs.DataImpl.{reading_methods, whole_methods}

-- ---- lines

pub kept_same : (member : List ℕ) → member_filled KEPT.now member ≡ kept member
unfolding filled kept
kept_same member = refl

pub hashed_same : (member : List ℕ) → member_filled HASHED.now member ≡ hashed member
unfolding filled hashed
hashed_same member = refl

pub each_value_same : (count args : List ℕ)
    → filled EACH_VALUE.now (map (λ h. h.now) EACH_VALUE_HOLES) (count ∷ args ∷ []) ≡ hashed_each_value count args
unfolding filled hashed_each_value
each_value_same count args = refl

pub each_block_same : (count blocks : List ℕ)
    → filled EACH_BLOCK.now (map (λ h. h.now) EACH_BLOCK_HOLES) (count ∷ blocks ∷ []) ≡ hashed_each_block count blocks
unfolding filled hashed_each_block
each_block_same count blocks = refl

pub ruleset hash_steps = (hashed_same, each_value_same, each_block_same)

-- ---- arms

pub eq_arm_same : (f : InstructionFormat) → filled EQ_ARM.now (map (λ h. h.now) EQ_ARM_HOLES) (
    f.name
    ∷ pattern_text (codes "opcode: ref opcode1") (member_filled FIRST.now) (member_filled FIRST.now) (member_filled FIRST.now) f
    ∷ pattern_text (codes "opcode: ref opcode2") (member_filled SECOND.now) (member_filled SECOND.now) (member_filled SECOND.now) f
    ∷ equal_members (member_filled EQUAL.now) f ∷ []) ≡ eq_arm f
unfolding filled eq_arm equal_member
eq_arm_same f = refl

-- a template that ends in a hole ends in nothing after it
plain_same : member_filled PLAIN.now ≡ further []
unfolding filled
plain_same = λ i member. codes ", " ++ append-nil member i

by_reference_same : member_filled BY_REFERENCE.now ≡ further (codes "ref ")
unfolding filled
by_reference_same = λ i member. codes ", ref " ++ append-nil member i

pub hash_arm_same : (f : InstructionFormat) → filled HASH_ARM.now (map (λ h. h.now) HASH_ARM_HOLES) (
    f.name
    ∷ pattern_text (codes "opcode") (member_filled BY_REFERENCE.now) (member_filled BY_REFERENCE.now) (member_filled PLAIN.now) f
    ∷ hashed_members (member_filled HASHED.now) f ∷ []) ≡ hash_arm f
unfolding filled hash_arm hashed
hash_arm_same f = λ i. filled HASH_ARM.now (map (λ h. h.now) HASH_ARM_HOLES) (
    f.name
    ∷ pattern_text (codes "opcode") (by_reference_same i) (by_reference_same i) (plain_same i) f
    ∷ hashed_members (member_filled HASHED.now) f ∷ [])

pub clone_arm_same : (f : InstructionFormat) → filled REBUILT.now (map (λ h. h.now) REBUILT_HOLES) (
    f.name
    ∷ clone_pattern (member_filled BY_REFERENCE.now) (member_filled PLAIN.now) (values_of f) f
    ∷ cloned_members (member_filled KEPT.now) f ∷ []) ≡ clone_arm f
unfolding filled clone_arm kept
clone_arm_same f = λ i. filled REBUILT.now (map (λ h. h.now) REBUILT_HOLES) (
    f.name ∷ clone_pattern (by_reference_same i) (plain_same i) (values_of f) f ∷ cloned_members (member_filled KEPT.now) f ∷ [])

pub map_arm_same : (f : InstructionFormat) → filled REBUILT.now (map (λ h. h.now) REBUILT_HOLES) (
    f.name
    ∷ pattern_text (codes "opcode") (member_filled PLAIN.now) (member_filled PLAIN.now) (member_filled PLAIN.now) f
    ∷ mapped_members (member_filled MAPPED_BLOCK.now) f ∷ []) ≡ map_arm f
unfolding filled map_arm mapped
map_arm_same f = λ i. filled REBUILT.now (map (λ h. h.now) REBUILT_HOLES) (
    f.name
    ∷ pattern_text (codes "opcode") (plain_same i) (plain_same i) (plain_same i) f
    ∷ mapped_members (member_filled MAPPED_BLOCK.now) f ∷ [])

-- ---- methods

pub reading_same : (fs : List InstructionFormat) → filled READING.now (map (λ h. h.now) READING_HOLES) (
    flat_map (method_arm Opcode) fs ∷ flat_map (method_arm TypevarOperand) fs ∷ flat_map (method_arm Arguments) fs
    ∷ flat_map (method_arm ArgumentsMut) fs ∷ []) ≡ reading_methods fs
unfolding filled reading_methods
reading_same fs = refl

pub whole_same : (fs : List InstructionFormat) → filled WHOLE.now (map (λ h. h.now) WHOLE_HOLES) (
    flat_map (method_arm Eq) fs ∷ flat_map (method_arm Hash) fs ∷ flat_map (method_arm DeepClone) fs ∷ flat_map (method_arm Map) fs ∷ [])
    ≡ whole_methods fs
unfolding filled whole_methods
whole_same fs = refl
