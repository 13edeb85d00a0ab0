use Rattle.layers.proofs.Piles.{pile_is}
use Rattle.layers.proofs.pile.pile.Goals as goal

pub returns : goal.returns
returns g c =
    let m = g.B.Tester.meaning c.args.bottom in
    record { value = pile_is c.args.layers m _ _ _ _ c.if-layers-gt-MOST_LAYERS.false c.laid-one.ensures c.laid-two.ensures c.laid-three.ensures c.laid.ensures }
