-- Lists of packets in lists.
use Rattle.std.specs.Prelude.{List, map, Vec}
use Rattle.std.specs.declared.alloc.Global.{Global}
use Rattle.xs_capture.specs.Offer.{Offer}

-- the lists that vectors hold
abbrev pub lists_in : List (Vec Offer Global) → List (List Offer)
lists_in vectors = map (λ v. v.items) vectors
