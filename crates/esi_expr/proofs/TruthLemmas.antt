-- The truth of several in a row.
use Rattle.std.proofs.Common.{◌≡◌, Bool, true, false, ◌||◌, ◌&&◌, List, [], ◌∷◌, map, refl, ◌∙◌, ap}
use Rattle.std.specs.List.{list_any, list_all, fold}
use Rattle.edge_types.specs.declared.request.Request.{Request}
use Rattle.esi_expr.specs.declared.expr.Conjunction.{Conjunction}
use Rattle.esi_expr.specs.declared.expr.Negation.{Negation}
use Rattle.esi_expr.specs.declared.expr.Expr.{Expr}
use Rattle.esi_expr.specs.declared.expr.Negation.TheViews.{out-Expr, out-Conjunction}
use Rattle.esi_expr.specs.declared.expr.Negation.TheFolds.{fold_out-Expr, fold_out-Conjunction}
use Rattle.esi_expr.specs.Shown.{any_of, all_of, test_of, conj_of, neg_of, negation_step, conjunction_step, expr_step}
use Rattle.esi_expr.specs.Tree.{Test, Single, Or, Conj, Sole, And, Neg}
use Rattle.esi_expr.specs.Truth.{holds, conj_holds, neg_holds}

or_assoc : (a b c : Bool) → ((a || b) || c) ≡ (a || (b || c))
or_assoc true b c = refl
or_assoc false b c = refl

and_assoc : (a b c : Bool) → ((a && b) && c) ≡ (a && (b && c))
and_assoc true b c = refl
and_assoc false b c = refl

or_false : (a : Bool) → a ≡ (a || false)
or_false true = refl
or_false false = refl

and_true : (a : Bool) → a ≡ (a && true)
and_true true = refl
and_true false = refl

any_behind : (request : Request) (front : Test) (more : List Conjunction)
    → holds request (fold Or front (map conj_of more)) ≡ (holds request front || list_any (λ one. conj_holds request (conj_of one)) more)
unfolding holds
any_behind request front [] = or_false (holds request front)
any_behind request front (c ∷ cs) =
    any_behind request (Or front (conj_of c)) cs ∙ or_assoc (holds request front) (conj_holds request (conj_of c)) (list_any (λ one. conj_holds request (conj_of one)) cs)

-- a test holds where its first conjunction does, or another
pub any_holds : (request : Request) (first : Conj) (more : List Conjunction)
    → holds request (any_of first (map conj_of more)) ≡ (conj_holds request first || list_any (λ one. conj_holds request (conj_of one)) more)
unfolding holds
any_holds request first more = any_behind request (Single first) more

all_behind : (request : Request) (front : Conj) (more : List Negation)
    → conj_holds request (fold And front (map neg_of more)) ≡ (conj_holds request front && list_all (λ one. neg_holds request (neg_of one)) more)
unfolding conj_holds
all_behind request front [] = and_true (conj_holds request front)
all_behind request front (n ∷ ns) =
    all_behind request (And front (neg_of n)) ns ∙ and_assoc (conj_holds request front) (neg_holds request (neg_of n)) (list_all (λ one. neg_holds request (neg_of one)) ns)

-- a conjunction holds where its first negation does, and each other
pub all_hold : (request : Request) (first : Neg) (more : List Negation)
    → conj_holds request (all_of first (map neg_of more)) ≡ (neg_holds request first && list_all (λ one. neg_holds request (neg_of one)) more)
unfolding conj_holds
all_hold request first more = all_behind request (Sole first) more

pub expr_holds : (request : Request) (e : Expr)
    → holds request (test_of e) ≡ (conj_holds request (conj_of (out-Expr e).first) || list_any (λ one. conj_holds request (conj_of one)) (out-Expr e).more.items)
expr_holds request e =
    ap (holds request) (fold_out-Expr Neg Conj Test negation_step conjunction_step expr_step e) ∙ any_holds request (conj_of (out-Expr e).first) (out-Expr e).more.items

pub conjunction_holds : (request : Request) (e : Conjunction)
    → conj_holds request (conj_of e) ≡ (neg_holds request (neg_of (out-Conjunction e).first) && list_all (λ one. neg_holds request (neg_of one)) (out-Conjunction e).more.items)
conjunction_holds request e =
    ap (conj_holds request) (fold_out-Conjunction Neg Conj Test negation_step conjunction_step expr_step e) ∙ all_hold request (neg_of (out-Conjunction e).first) (out-Conjunction e).more.items
