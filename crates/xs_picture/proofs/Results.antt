-- Results that are told apart.
use Rattle.std.proofs.Common.{◌≡◌, sym, ap, subst}
use Rattle.std.specs.Prelude.{Result, Ok, Err, Some, IfErr, IfOk}
use Rattle.std.specs.Result.{result_err, IsErrAnd}
use Rattle.std.proofs.lemmas.Result.{err_from_is_err_and}

pub is_err : {T E : Type 0} (r : Result T E) (e : E) → result_err r ≡ Some e → r ≡ Err e
is_err (Ok x) e p = absurd (cc p)
is_err (Err f) e p = let same : f ≡ e = cc p in ap Err same

-- what holds of the error that a call gave on
pub err_holds : {T E : Type 0} (P : E → Type 0) (r : Result T E) (f : E) → IsErrAnd r (λ y. y ≡ f) → P f → IfErr r P
err_holds P r f given p = let e = err_from_is_err_and r given in subst (λ x. IfErr x P) (sym e.1) (subst P (sym e.2) p)

pub ok_weaker : {T E : Type 0} (r : Result T E) (P Q : T → Type 0) → IfOk r P → ((x : T) → P x → Q x) → IfOk r Q
ok_weaker (Ok x) P Q p weaker = weaker x p
ok_weaker (Err e) P Q p weaker = tt
