use Rattle.std.proofs.Common.{◌≡◌, map, sym, ap, subst, ◌∙◌, Contains}
use Rattle.std.specs.List.{dedup}
use Rattle.std.proofs.Math.Dec.{eqb}
use Rattle.std.proofs.lemmas.List.{take_all}
use Rattle.std.proofs.lemmas.List.Filters.{dedup_is}
use Rattle.xs_lists.specs.Ascending.{ListsAscending}
use Rattle.xs_capture.specs.Offer.{Offer}
use Rattle.xs_capture.proofs.Sorting.{listed}
use Rattle.xs_capture.proofs.pictures.timestamps_of.Goals as goal

pub returns-clause-list : goal.returns-clause-list
returns-clause-list c =
    let all : c.listing.list.items ≡ map (λ (p : Offer). p.timestamp) c.args.packets.now = c.listing.invariant ∙ ap (map (λ (p : Offer). p.timestamp)) (take_all c.listing.packet-index c.args.packets.now c.listing-test.false) in
    let kept = listed c.listing.list.items c.sort_unstable.new.self.items c.sort_unstable.ensures.permutation c.sort_unstable.ensures.sorted in
    subst (ListsAscending (Contains (map (λ (p : Offer). p.timestamp) c.args.packets.now))) (sym (dedup_is eqb c.sort_unstable.new.self.items c.dedup.new.self.items c.dedup.ensures.filtered))
    (subst (λ l. ListsAscending (Contains l) (dedup eqb c.sort_unstable.new.self.items)) all kept)
