-- Two closures that stand for themselves are compared: their heads, and then their parts.
use Rattle.std.proofs.Common.{◌≡◌, ◌∙◌, Bool, true, false, ◌&&◌, sym, ap, ap₂, arith, List, [], ◌++◌, append-nil, length}
use Rattle.lq_terms.specs.declared.nodes.Node.{Node}
use Rattle.lq_terms.specs.Terms.{Terms, HasName, IsPart, EachPart, tree_of, node_tree}
use Rattle.lq_solving.specs.Stores.{Store as TreeStore}
use Rattle.lq_evars.specs.declared.scopes.Link.{Link}
use Rattle.lq_evars.specs.declared.comparing.Pair.{Pair}
use Rattle.lq_evars.specs.Heads.{same_head, parts_in, all_equal}
use Rattle.lq_evars.specs.Closures.{scope_of, closure_tree, AreLinks, HasPair, SettledClosure, IsShallow, node_head, closure_parts, paired, same_pair, StandFor}
use Rattle.lq_evars.proofs.HeadLaws.{alike_is}
use Rattle.lq_evars.proofs.Formed.{formed, parts_lighter, same_paired, steps_paired, parts_there, pairs_there, parts_deep, pairs_shallow}

module _ (bank : Terms) (s : TreeStore) (ls : List Link) (p : Pair) (left right : Node) (le : node_tree bank left ≡ tree_of bank p.left.term) (re : node_tree bank right ≡ tree_of bank p.right.term)
    (ls_settled : SettledClosure bank s ls p.left) (rs_settled : SettledClosure bank s ls p.right) where
  abbrev heads : Bool
  heads = same_head (node_head bank (scope_of bank ls p.left.around) p.left.base p.left.under left) (node_head bank (scope_of bank ls p.right.around) p.right.base p.right.under right)

  abbrev parts : Bool
  parts = all_equal (parts_in (closure_tree bank s ls p.left)) (parts_in (closure_tree bank s ls p.right))

  pair_is : same_pair bank s ls p ≡ (heads && parts)
  pair_is =
      alike_is (closure_tree bank s ls p.left) (closure_tree bank s ls p.right)
      ∙ ap (λ b. b && parts) (ap₂ same_head (formed bank s ls p.left left le ls_settled).0 (formed bank s ls p.right right re rs_settled).0)

  pub heads_differ : heads ≡ false → same_pair bank s ls p ≡ false
  heads_differ e = pair_is ∙ ap (λ b. b && parts) e

  pub parts_stand : AreLinks bank s.variables ls → HasPair bank s.variables (length ls) p → (work : List Pair) → IsShallow (length work) p → EachPart (HasName bank) (IsPart bank p.left.term) left → EachPart (HasName bank) (IsPart bank p.right.term) right
      → heads ≡ true → (more : List Pair) → more ≡ work ++ paired (closure_parts p.left left) (closure_parts p.right right) → StandFor bank s ls ls p work more
  parts_stand made has work shallow lp rp e more b = record {
    more = [];
    longer = sym (append-nil ls);
    made = made;
    added = paired (closure_parts p.left left) (closure_parts p.right right);
    behind = b;
    has =
        pairs_there bank s.variables (length ls) (closure_parts p.left left) (closure_parts p.right right) (parts_there bank s.variables (length ls) p.left has.left left lp le)
        (parts_there bank s.variables (length ls) p.right has.right right rp re);
    shallow = pairs_shallow (length work) (closure_parts p.left left) (closure_parts p.right right) (parts_deep p.left (length work) left shallow.left) (parts_deep p.right (length work) right shallow.right);
    same =
        same_paired bank s ls p.left p.right (closure_parts p.left left) (closure_parts p.right right)
        ∙ ap₂ all_equal (sym (formed bank s ls p.left left le ls_settled).1) (sym (formed bank s ls p.right right re rs_settled).1)
        ∙ sym (pair_is ∙ ap (λ b. b && parts) e);
    falls =
        omega (
          arith,
          steps_paired bank s ls p.left p.right (closure_parts p.left left) (closure_parts p.right right),
          parts_lighter bank s ls p.left left le ls_settled,
          parts_lighter bank s ls p.right right re rs_settled,
        );
  }
