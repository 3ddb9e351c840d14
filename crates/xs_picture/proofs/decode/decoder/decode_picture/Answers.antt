use Rattle.std.proofs.Common.{◌≡◌, ◌≢◌, sym, ap, subst, ◌∙◌}
use Rattle.std.specs.Prelude.{◌⊎◌, Some}
use Rattle.xs_params.specs.declared.header.Header.{Header}
use Rattle.xs_faults.specs.declared.StreamFault.TheVariants as fault
use Rattle.xs_decoding.specs.Decoded.{IsPictureOf}
use Rattle.xs_picture.specs.Faults.{stream_fault}
use Rattle.xs_picture.proofs.Grown.{grown_read, held_all}
use Rattle.xs_picture.proofs.Results.{err_holds}
use Rattle.xs_picture.proofs.StreamsRead.{end_refused, length_refused, slices_refused}
use Rattle.xs_picture.proofs.decode.decoder.decode_picture.Goals as goal

pub returns-in_err-growing-clause-refused : goal.returns-in_err-growing-clause-refused
returns-in_err-growing-clause-refused c =
    let bytes = c.args.bytes.now in
    let f = c.in_err-growing.field-0.0 in
    err_holds (λ f. f ≢ fault.Memory → stream_fault bytes ≡ Some f) c.from_residual-in_err-growing.result f c.from_residual-in_err-growing.ensures.1
    (λ other. slices_refused c.in_ok-header.header bytes c.in_ok-header.start f c.in_ok-header.ensures.read (c.in_err-growing.ensures.refused other))

pub returns-in_err-end-clause-refused : goal.returns-in_err-end-clause-refused
returns-in_err-end-clause-refused c =
    let bytes = c.args.bytes.now in
    let f = c.in_err-end.field-0.0 in
    let so = c.in_ok-growing.ensures.read in
    err_holds (λ f. f ≢ fault.Memory → stream_fault bytes ≡ Some f) c.from_residual-in_err-end.result f c.from_residual-in_err-end.ensures.1
    (λ other. end_refused c.in_ok-header.header bytes c.in_ok-header.start so.slices c.in_ok-growing.place f c.in_ok-header.ensures.read so.read (sym c.in_err-end.ensures.first))

pub returns-in_err-check_length-clause-refused : goal.returns-in_err-check_length-clause-refused
returns-in_err-check_length-clause-refused c =
    let h = c.in_ok-header.header in
    let bytes = c.args.bytes.now in
    let f = c.in_err-check_length.field-0.0 in
    let e = c.in_err-check_length.ensures in
    let so = c.in_ok-growing.ensures.read in
    let stated : c.header.result.now.lcod ≡ h.lcod = ap (λ (x : Header). x.lcod) (c.header.ensures ∙ c.in_ok-growing.ensures.header) in
    err_holds (λ f. f ≢ fault.Memory → stream_fault bytes ≡ Some f) c.from_residual-in_err-check_length.result f c.from_residual-in_err-check_length.ensures.1
    (λ other. length_refused h bytes c.in_ok-header.start so.slices c.in_ok-growing.place c.in_ok-end.end c.in_ok-header.ensures.read so.read (sym c.in_ok-end.ensures.first) c.in_ok-end.ensures.place (λ z. e.0 (stated ∙ z)) (λ z. e.1 (stated ∙ z))
    ∙ ap (λ n. Some (fault.Lcod n c.in_ok-end.end)) (sym stated) ∙ ap Some (sym e.2))

pub finish-requires-clause-held : goal.finish-requires-clause-held
finish-requires-clause-held c =
    held_all c.in_ok-header.header c.args.bytes.now c.in_ok-header.start c.in_ok-growing.growing c.in_ok-growing.place c.in_ok-header.ensures.read.spelled.0.1.accepted c.in_ok-growing.ensures.read

pub returns-clause-read : goal.returns-clause-read
returns-clause-read c =
    let h = c.in_ok-header.header in
    let growing = c.in_ok-growing.growing in
    let end = c.in_ok-end.end in
    let same = c.in_ok-growing.ensures.header in
    let stated : (h.lcod ≡ 0) ⊎ (h.lcod ≡ end) = subst (λ (x : Header). (x.lcod ≡ 0) ⊎ (x.lcod ≡ end)) (c.header.ensures ∙ same) c.in_ok-check_length.ensures in
    grown_read h c.args.bytes.now c.in_ok-header.start c.in_ok-growing.place end growing c.in_ok-picture.picture c.in_ok-header.ensures.read c.in_ok-end.ensures.within c.in_ok-growing.ensures.read
    (sym c.in_ok-end.ensures.first) c.in_ok-end.ensures.read c.in_ok-end.ensures.place stated
    (λ rows holds. subst (λ (x : Header). IsPictureOf x rows c.in_ok-picture.picture) same (c.in_ok-picture.ensures rows holds))
