-- Laws of what is kept: of pieces in a row, how long it is, and that the count sheet accepts it.
use mathlib.Core.Path.{◌≡◌, refl}
use mathlib.Core.List.{List, [], ◌∷◌, ◌++◌}
use Prim.Native.Nat.{ℕ, ◌≤◌}
use native.Mathlib.Omega.{arith}
use lib.ListN.{length, length-append}
use Rattle.std.specs.Prelude.{Ok}
use Rattle.sheet.specs.Sheets.{sheet_read}
use Rattle.sheet.proofs.LawsReadings.{whole-accepted}
use Rattle.sheet.proofs.LawsJoined.{accepted-append}
use Rattle.mending.specs.Pieces.{Piece, Kept, Dropped, ended, joined, kept_of}
use Rattle.mending.proofs.LawsWalk.{reading-is}
use Rattle.mending.proofs.LawsPieces.{Stand, none, kept, dropped}

pub kept-none : kept_of [] ≡ []
unfolding kept_of
kept-none = refl

pub kept-ended : (d : List ℕ) (ps : List Piece) → kept_of (ended d ++ ps) ≡ kept_of ps
unfolding ended kept_of
kept-ended [] ps = refl
kept-ended (b ∷ d) ps = refl

pub kept-first : (bytes : List ℕ) (ps : List Piece) → kept_of (Kept bytes ∷ ps) ≡ bytes ++ kept_of ps
unfolding kept_of
kept-first bytes ps = refl

pub kept-length : (ps : List Piece) → length (kept_of ps) ≤ length (joined ps)
unfolding kept_of joined
kept-length [] = omega arith
kept-length (Kept bytes ∷ ps) = omega (arith, length-append bytes (kept_of ps), length-append bytes (joined ps), kept-length ps)
kept-length (Dropped bytes ∷ ps) = omega (arith, length-append bytes (joined ps), kept-length ps)

nothing-accepted : sheet_read [] ≡ Ok tt
nothing-accepted = whole-accepted [] 0 refl (omega arith) (λ k h. absurd (omega arith))

pub kept-accepted : (ps : List Piece) → Stand ps → length (kept_of ps) ≤ 65535 → sheet_read (kept_of ps) ≡ Ok tt
unfolding kept_of
kept-accepted [] none l = nothing-accepted
kept-accepted (Kept bytes ∷ ps) (kept r h) l =
    accepted-append bytes (kept_of ps) (reading-is bytes r).1 (kept-accepted ps h (omega (arith, length-append bytes (kept_of ps)))) l
kept-accepted (Dropped bytes ∷ ps) (dropped n q c h) l = kept-accepted ps h l
