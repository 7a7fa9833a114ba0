-- The text of a type set.
--     masks_text m           the set as it is written: `TypeSet(lanes={1}, ints={8, 16})`
--     set_block m            its block in the table of type sets
use Rattle.std.specs.Prelude.{ℕ, ◌==◌, List, [], ◌∷◌, ◌++◌, map, Option, None, Some, if◌then◌else◌, codes, bit_and}
use Rattle.std.specs.List.{filter}
use Rattle.std.specs.Fmt.{decimal}
use Rattle.meta_typevar.specs.declared.masks.Masks.{Masks}
use Rattle.meta_text.specs.Lines.{Line, at, text_of}

-- the texts, this one before the first, and a comma and a space before each other
abbrev pub parted_after : List ℕ → List (List ℕ) → List ℕ
parted_after before [] = []
parted_after before (text ∷ texts) = before ++ (text ++ parted_after (codes ", ") texts)

-- the texts, parted by a comma and a space
abbrev pub parted : List (List ℕ) → List ℕ
parted texts = parted_after [] texts

-- the powers of two that a mask of 16 bits may hold, rising
abbrev pub powers : List ℕ
powers = 1 ∷ 2 ∷ 4 ∷ 8 ∷ 16 ∷ 32 ∷ 64 ∷ 128 ∷ 256 ∷ 512 ∷ 1024 ∷ 2048 ∷ 4096 ∷ 8192 ∷ 16384 ∷ 32768 ∷ []

-- those of the numbers that the mask holds
abbrev pub held : ℕ → List ℕ → List ℕ
held mask numbers = filter (λ n. bit_and mask n == n) numbers

-- the powers of two that the mask holds, rising: `8, 16`
unfoldable pub members : ℕ → List ℕ
members mask = parted (map decimal (held mask powers))

-- this text, the members and `}`, and nothing where the mask is empty
unfoldable pub part_of : List ℕ → ℕ → List ℕ
part_of before mask = if mask == 0 then [] else (before ++ (members mask ++ codes "}"))

-- the set: its lane counts, and its widths of ints and of floats where there are such. Those of dynamic vectors aren't written.
unfoldable pub masks_text : Masks → List ℕ
masks_text m = codes "TypeSet(lanes={"
    ++ (members m.lanes ++ (codes "}" ++ (part_of (codes ", ints={") m.ints ++ (part_of (codes ", floats={") m.floats ++ codes ")"))))

-- the text of a set, and nothing of none
abbrev pub set_or_nothing : Option Masks → List ℕ
set_or_nothing None = []
set_or_nothing (Some m) = masks_text m

-- the block's lines of numbers
unfoldable pub mask_lines : Masks → List Line
mask_lines m =
    at 1 (codes "ir::instructions::ValueTypeSet {" ∷ [])
    ∷ (at 2 (codes "lanes: ScalarBitSet::<u16>(" ∷ decimal m.lanes ∷ codes ")," ∷ [])
    ∷ (at 2 (codes "dynamic_lanes: ScalarBitSet::<u16>(" ∷ decimal m.dynamic_lanes ∷ codes ")," ∷ [])
    ∷ (at 2 (codes "ints: ScalarBitSet::<u8>(" ∷ decimal m.ints ∷ codes ")," ∷ [])
    ∷ at 2 (codes "floats: ScalarBitSet::<u8>(" ∷ decimal m.floats ∷ codes ")," ∷ []) ∷ [])))

-- the comment in a block that says what the set is for, and the set
unfoldable pub set_comment : List ℕ → List ℕ → List ℕ
set_comment about set = text_of (at 2 (codes "// " ∷ about ∷ set ∷ []) ∷ [])

-- the end of a block that is an element of a list
unfoldable pub block_end : List ℕ
block_end = text_of (at 1 (codes "}" ∷ []) ∷ at 1 (codes "," ∷ []) ∷ [])

-- the block of a set: its masks as numbers, and the set in a comment
unfoldable pub set_block : Masks → List ℕ
set_block m = text_of (mask_lines m) ++ (set_comment [] (masks_text m) ++ block_end)
