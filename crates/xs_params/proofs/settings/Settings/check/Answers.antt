use Rattle.std.proofs.Common.{◌∙◌, sym, subst}
use Rattle.xs_lists.specs.Packing.{AreBytes}
use Rattle.xs_params.specs.Check.{IsChecked}
use Rattle.xs_params.proofs.InRange.{in_range}
use Rattle.xs_params.proofs.settings.Settings.check.Goals as goal

pub invariant_of-result : goal.invariant_of-result
invariant_of-result c =
    let checked : IsChecked c.args.self = record { none = sym c.refusal.ensures ∙ c.in-None.is } in
    (checked, in_range c.args.self (subst AreBytes c.as_slice.ensures.items c.known_bytes.ensures) checked)
