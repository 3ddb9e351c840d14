use Rattle.std.proofs.Common.{◌≡◌, ◌<◌, All, length, refl, sym, subst, ◌∙◌}
use Rattle.std.proofs.lemmas.List.{map-id}
use Rattle.std.proofs.lemmas.List.Elements.{All-get_or, All-nil}
use Rattle.std.proofs.lemmas.Iterator.Adapters.{YieldsList-from_vec}
use Rattle.std.proofs.lemmas.Iterator.Consumers.{YieldsList-turn, YieldsList-end}
use Rattle.xs_capture.specs.Offer.{Offer}
use Rattle.xs_stored.specs.Stored.{IsFiled}
use Rattle.xs_board.specs.Passes.{actor, unit_count}
use Rattle.xs_recv.specs.Filing.{FilesOf}
use Rattle.xs_recv.proofs.Feeding.{filed_more, files_more, files_none}
use Rattle.xs_recv.proofs.feed.file_all.Goals as goal

pub feeding-init : goal.feeding-init
feeding-init c = record {
  pass = c.requires.pass;
  share = (refl, refl);
  knows = refl;
  got = refl;
  files = files_none (actor c.args.pass.now);
  each = All-nil (IsFiled (actor c.args.pass.now));
}

pub file-requires-clause-unit : goal.file-requires-clause-unit
file-requires-clause-unit c =
    let gives = c.into_iter-packet-iterator.ensures.into_iter_gives in
    let turn = YieldsList-turn (YieldsList-from_vec {s = c.into_iter-packet-iterator.result} c.args.part.items gives.0 (gives.1 ∙ c.args.part.ok.0)) c.feeding.yielded c.feeding.packet-iterator c.feeding.yielded_by
    c.next.result c.next.new.self c.in-Some.packet c.in-Some.is c.next.ensures.steps in
    subst (λ (p : Offer). p.unit < unit_count c.args.board.now) (sym turn.1)
    (All-get_or (λ (p : Offer). p.unit < unit_count c.args.board.now) c.args.part.items (length c.feeding.yielded) c.in-Some.packet turn.0 c.requires.units)

pub feeding-preserved : goal.feeding-preserved
feeding-preserved c =
    let i = c.feeding.invariant in
    let u = actor c.feeding.pass in
    let w = actor c.file.new.pass in
    record {
      pass = c.file.ensures.pass;
      share = (c.file.ensures.share.0 ∙ i.share.0, c.file.ensures.share.1 ∙ i.share.1);
      knows = c.file.ensures.knows ∙ i.knows;
      got = c.file.ensures.got ∙ i.got;
      files = files_more c.feeding.yielded (actor c.args.pass.now) u w c.in-Some.packet i.files c.file.ensures.puts;
      each = filed_more c.feeding.yielded u w c.in-Some.packet i.each c.file.ensures.puts;
    }

pub returns-clause-files : goal.returns-clause-files
returns-clause-files c =
    let gives = c.into_iter-packet-iterator.ensures.into_iter_gives in
    let end = YieldsList-end (YieldsList-from_vec {s = c.into_iter-packet-iterator.result} c.args.part.items gives.0 (gives.1 ∙ c.args.part.ok.0)) c.feeding.yielded c.feeding.packet-iterator c.feeding.yielded_by
    c.next.result c.next.new.self c.in-None.is c.next.ensures.steps in
    let all : c.feeding.yielded ≡ c.args.part.items = sym (map-id c.feeding.yielded) ∙ end.0 in
    subst (λ l. FilesOf l (actor c.args.pass.now) (actor c.feeding.pass)) all c.feeding.invariant.files

pub returns-clause-each : goal.returns-clause-each
returns-clause-each c =
    let gives = c.into_iter-packet-iterator.ensures.into_iter_gives in
    let end = YieldsList-end (YieldsList-from_vec {s = c.into_iter-packet-iterator.result} c.args.part.items gives.0 (gives.1 ∙ c.args.part.ok.0)) c.feeding.yielded c.feeding.packet-iterator c.feeding.yielded_by
    c.next.result c.next.new.self c.in-None.is c.next.ensures.steps in
    let all : c.feeding.yielded ≡ c.args.part.items = sym (map-id c.feeding.yielded) ∙ end.0 in
    subst (All (IsFiled (actor c.feeding.pass))) all c.feeding.invariant.each
