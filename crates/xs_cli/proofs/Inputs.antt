-- An input, from what was taken of it and what is left.
use Rattle.std.proofs.Common.{◌≡◌, ℕ, ◌+◌, ◌%◌, ◌<◌, ◌++◌, List, [], ◌∷◌, length, map, Option, Some, None, refl, sym, ap, subst, ◌∙◌, arith, length-append, append-nil}
use Rattle.std.specs.Prelude.{unwrap_or}
use Rattle.std.specs.Io.KnownBytes.{Consumes, IsAtEnd}
use Rattle.std.proofs.KnownBytes.{Consumes-trans}
use Rattle.std.proofs.lemmas.List.{length-map}
use Rattle.std.proofs.lemmas.List.Elements.{All-nil, All-cons}
use Rattle.xs_io.specs.Bytes.{AreByteItems}
use Rattle.xs_endings.specs.Ends.{change_of, IsLeft, IsUsedUp}

pub no_bytes : AreByteItems []
no_bytes = All-nil (λ (item : ℕ). item < 256)

-- what is left behind what was taken, where that is told
pub record HasRest (before after : Option (List ℕ)) (taken : List ℕ) : Type 0 where
  pub rest : List ℕ
  pub left : IsLeft before (taken ++ rest)
  pub end : IsAtEnd after → rest ≡ []

pub rest_of : (before after : Option (List ℕ)) (taken : List ℕ) → AreByteItems taken → Consumes before after taken → HasRest before after taken
rest_of None after taken bytes consumed = record { rest = []; left = subst AreByteItems (sym (append-nil taken)) bytes; end = λ _. refl }
rest_of (Some x) None taken bytes consumed = absurd consumed
rest_of (Some x) (Some y) taken bytes consumed = record { rest = y; left = consumed; end = λ e. e }

-- the same where a front of it was taken besides, of which it is not known that it is of bytes
pub record HasFront (before after : Option (List ℕ)) (taken : List ℕ) (most : ℕ) : Type 0 where
  pub front : List ℕ
  pub rest : List ℕ
  pub left : IsLeft before (taken ++ (front ++ rest))
  pub consumed : Consumes before after (taken ++ front)
  pub short : length front < most

pub front_of : (before middle after : Option (List ℕ)) (taken front : List ℕ) (most : ℕ) → AreByteItems taken → Consumes before middle taken → Consumes middle after front → length front < most
    → HasFront before after taken most
front_of None middle after taken front most bytes first second short =
    record { front = []; rest = []; left = subst AreByteItems (sym (append-nil taken)) bytes; consumed = tt; short = omega (arith, short) }
front_of (Some x) None after taken front most bytes first second short = absurd first
front_of (Some x) (Some y) None taken front most bytes first second short = absurd second
front_of (Some x) (Some y) (Some z) taken front most bytes first second short =
    record { front = front; rest = z; left = first ∙ ap (λ l. taken ++ l) second; consumed = Consumes-trans (Some x) (Some y) (Some z) taken front first second; short = short }

-- some input was left
pub was_some : (before : Option (List ℕ)) → IsLeft before (unwrap_or before [])
was_some None = no_bytes
was_some (Some bytes) = refl

pub used_up : (before after : Option (List ℕ)) (faults faults' : ℕ) (taken : List ℕ) → Consumes before after taken → IsAtEnd after
    → IsUsedUp (change_of before after faults faults')
used_up None after faults faults' taken consumed end = tt
used_up (Some bytes) None faults faults' taken consumed end = absurd consumed
used_up (Some bytes) (Some rest) faults faults' taken consumed end = ap Some end

-- all was taken
pub was_whole : (before after : Option (List ℕ)) (taken : List ℕ) → AreByteItems taken → Consumes before after taken → IsAtEnd after → IsLeft before taken
was_whole None after taken bytes consumed end = bytes
was_whole (Some bytes) None taken small consumed end = absurd consumed
was_whole (Some bytes) (Some rest) taken small consumed end = consumed ∙ ap (λ more. taken ++ more) end ∙ append-nil taken

low_bytes : (items : List ℕ) → AreByteItems (map (λ (item : ℕ). item % 256) items)
low_bytes [] = no_bytes
low_bytes (item ∷ items) = All-cons (λ (item : ℕ). item < 256) (item % 256) (map (λ (item : ℕ). item % 256) items) (omega arith) (low_bytes items)

-- more than the limit was taken
pub over : (limit : ℕ) (before after : Option (List ℕ)) (front : List ℕ) → length front ≡ limit + 1 → Consumes before after front → (input : List ℕ) × IsLeft before input × (limit < length input)
over limit None after front size consumed = (map (λ (item : ℕ). item % 256) front, low_bytes front, omega (arith, size, length-map front (λ (item : ℕ). item % 256)))
over limit (Some bytes) None front size consumed = absurd consumed
over limit (Some bytes) (Some rest) front size consumed = (front ++ rest, consumed, omega (arith, size, length-append front rest))
