use Rattle.exact.specs.Classes.{SumsTo}
use Rattle.exact.proofs.sums.class_sums.Given as goal

abbrev pub invariant-loop-security : goal.invariant-loop-security
invariant-loop-security g l = SumsTo (g.S.Sheet.rows l.sheet) (g.P.Positions.nets l.book) l.security l.sums
