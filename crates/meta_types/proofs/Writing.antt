-- What a formatter has written, call by call.
use Rattle.std.proofs.Common.{◌≡◌, ℕ, List, ◌++◌, Result}
use Rattle.std.proofs.lemmas.Grind.{put_two, put_three}
use Rattle.std.specs.declared.fmt.Formatter.{Formatter}
use Rattle.std.specs.declared.fmt.Error.{Error}
use Rattle.std.specs.Fmt.{HasWritten, IsPlainFormatter, WritesOnOk}

module _ {W : Type 0} (took : W → List ℕ → W → Type 0) where
  -- two texts that were written one after the other are one text
  pub written_both : (f g h : Formatter W) (r : Result (Unit {0}) Error) (a b all : List ℕ)
      → (IsPlainFormatter f → HasWritten took f a g) → WritesOnOk took g r b h → a ++ b ≡ all → WritesOnOk took f r all h
  written_both f g h r a b all first second e = λ plain is_ok.
      let u = first plain in
      put_two took f g h a b all u (second u.plain is_ok) e

  -- and so are three
  pub written_all : (f g h i : Formatter W) (r : Result (Unit {0}) Error) (a b c all : List ℕ)
      → (IsPlainFormatter f → HasWritten took f a g) → (IsPlainFormatter g → HasWritten took g b h)
      → WritesOnOk took h r c i → a ++ (b ++ c) ≡ all → WritesOnOk took f r all i
  written_all f g h i r a b c all first second third e = λ plain is_ok.
      let u = first plain in
      let v = second u.plain in
      put_three took f g h i a b c all u v (third v.plain is_ok) e
