-- What is written of the flags of a group of settings, whatever its settings are.
--     flags_text name arguments size     the struct, its constructor, and the function `iter`
--     flags_used_text name               the function `builder`, how the flags are shown, and the function `hash_key`
use Rattle.std.specs.Prelude.{ℕ, List, [], ◌∷◌, codes}
use Rattle.std.specs.Fmt.{decimal}
use Rattle.meta_text.specs.Lines.{at, text_of}
use Rattle.meta_rust_text.specs.declared.parent_group.ParentGroup.{ParentGroup}
use Rattle.meta_rust_text.specs.declared.parent_group.ParentGroup.TheVariants.{None, Shared}

-- the arguments of a constructor: it has the flags of the parent, if the group has one
abbrev pub arguments_of : ParentGroup → List ℕ
arguments_of None = codes "builder: Builder"
arguments_of Shared = codes "shared: &settings::Flags, builder: &Builder"

-- The flags of a group of this name, whose settings take this count of bytes. The constructor with these arguments makes flags whose bytes
-- are all 0, and copies the bytes of the builder to them.
unfoldable pub flags_text : List ℕ → List ℕ → ℕ → List ℕ
flags_text name arguments size = text_of (
    at 0 (codes "#[derive(Clone, PartialEq, Hash)]" ∷ [])
    ∷ at 0 (codes "/// Flags group `" ∷ name ∷ codes "`." ∷ [])
    ∷ at 0 (codes "pub struct Flags {" ∷ [])
    ∷ at 1 (codes "bytes: [u8; " ∷ decimal size ∷ codes "]," ∷ [])
    ∷ at 0 (codes "}" ∷ [])
    ∷ at 0 (codes "impl Flags {" ∷ [])
    ∷ at 1 (codes "/// Create flags " ∷ name ∷ codes " settings group." ∷ [])
    ∷ at 1 (codes "#[allow(unused_variables, reason = \"generated code\")]" ∷ [])
    ∷ at 1 (codes "pub fn new(" ∷ arguments ∷ codes ") -> Self {" ∷ [])
    ∷ at 2 (codes "let bvec = builder.state_for(\"" ∷ name ∷ codes "\");" ∷ [])
    ∷ at 2 (codes "let mut " ∷ name ∷ codes " = Self { bytes: [0; " ∷ decimal size ∷ codes "] };" ∷ [])
    ∷ at 2 (codes "debug_assert_eq!(bvec.len(), " ∷ decimal size ∷ codes ");" ∷ [])
    ∷ at 2 (name ∷ codes ".bytes[0.." ∷ decimal size ∷ codes "].copy_from_slice(&bvec);" ∷ [])
    ∷ at 2 (name ∷ [])
    ∷ at 1 (codes "}" ∷ [])
    ∷ at 0 (codes "}" ∷ [])
    ∷ at 0 (codes "impl Flags {" ∷ [])
    ∷ at 1 (codes "/// Iterates the setting values." ∷ [])
    ∷ at 1 (codes "pub fn iter(&self) -> impl Iterator<Item = Value> + use<> {" ∷ [])
    ∷ at 2 (codes "let mut bytes = [0; " ∷ decimal size ∷ codes "];" ∷ [])
    ∷ at 2 (codes "bytes.copy_from_slice(&self.bytes[0.." ∷ decimal size ∷ codes "]);" ∷ [])
    ∷ at 2 (codes "DESCRIPTORS.iter().filter_map(move |d| {" ∷ [])
    ∷ at 3 (codes "let values = match &d.detail {" ∷ [])
    ∷ at 4 (codes "detail::Detail::Preset => return None," ∷ [])
    ∷ at 4 (codes "detail::Detail::Enum { last, enumerators } => Some(TEMPLATE.enums(*last, *enumerators))," ∷ [])
    ∷ at 4 (codes "_ => None" ∷ [])
    ∷ at 3 (codes "}" ∷ [])
    ∷ at 3 (codes ";" ∷ [])
    ∷ at 3 (codes "Some(Value { name: d.name, detail: d.detail, values, value: bytes[d.offset as usize] })" ∷ [])
    ∷ at 2 (codes "}" ∷ [])
    ∷ at 2 (codes ")" ∷ [])
    ∷ at 1 (codes "}" ∷ [])
    ∷ at 0 (codes "}" ∷ []) ∷ [])

-- how the flags of a group of this name are built, shown and hashed
unfoldable pub flags_used_text : List ℕ → List ℕ
flags_used_text name = text_of (
    at 0 (codes "/// Create a `settings::Builder` for the " ∷ name ∷ codes " settings group." ∷ [])
    ∷ at 0 (codes "pub fn builder() -> Builder {" ∷ [])
    ∷ at 1 (codes "Builder::new(&TEMPLATE)" ∷ [])
    ∷ at 0 (codes "}" ∷ [])
    ∷ at 0 (codes "impl fmt::Display for Flags {" ∷ [])
    ∷ at 1 (codes "fn fmt(&self, f: &mut fmt::Formatter) -> fmt::Result {" ∷ [])
    ∷ at 2 (codes "writeln!(f, \"[" ∷ name ∷ codes "]\")?;" ∷ [])
    ∷ at 2 (codes "for d in &DESCRIPTORS {" ∷ [])
    ∷ at 3 (codes "if !d.detail.is_preset() {" ∷ [])
    ∷ at 4 (codes "write!(f, \"{} = \", d.name)?;" ∷ [])
    ∷ at 4 (codes "TEMPLATE.format_toml_value(d.detail, self.bytes[d.offset as usize], f)?;" ∷ [])
    ∷ at 4 (codes "writeln!(f)?;" ∷ [])
    ∷ at 3 (codes "}" ∷ [])
    ∷ at 2 (codes "}" ∷ [])
    ∷ at 2 (codes "Ok(())" ∷ [])
    ∷ at 1 (codes "}" ∷ [])
    ∷ at 0 (codes "}" ∷ [])
    ∷ at 0 (codes "impl Flags {" ∷ [])
    ∷ at 1 (codes "/// Get the flag values as raw bytes for hashing." ∷ [])
    ∷ at 1 (codes "pub fn hash_key(&self) -> &[u8] {" ∷ [])
    ∷ at 2 (codes "&self.bytes" ∷ [])
    ∷ at 1 (codes "}" ∷ [])
    ∷ at 0 (codes "}" ∷ []) ∷ [])
