-- Two lists whose elements are paired, place by place.
use Rattle.std.proofs.Common.{List, [], ◌∷◌, ◌++◌}
use Rattle.std.specs.List.{AllZip}

-- if R implies S, pairs in R are pairs in S
pub pairs_imply : {X Y : Type 0} (R S : X → Y → Type 0) → ((x : X) (y : Y) → R x y → S x y)
    → (xs : List X) (ys : List Y) → AllZip R xs ys → AllZip S xs ys
pairs_imply R S g [] [] h = h
pairs_imply R S g [] (y ∷ ys) h = h
pairs_imply R S g (x ∷ xs) [] h = h
pairs_imply R S g (x ∷ xs) (y ∷ ys) h = (g x y h.0, pairs_imply R S g xs ys h.1)

-- two lists in pairs, each with another such list after it, are in pairs
pub pairs_joined : {X Y : Type 0} (R : X → Y → Type 0) (xs more : List X) (ys others : List Y) → AllZip R xs ys
    → AllZip R more others → AllZip R (xs ++ more) (ys ++ others)
pairs_joined R [] more [] others h g = g
pairs_joined R [] more (y ∷ ys) others h g = absurd h
pairs_joined R (x ∷ xs) more [] others h g = absurd h
pairs_joined R (x ∷ xs) more (y ∷ ys) others h g = (h.0, pairs_joined R xs more ys others h.1 g)
