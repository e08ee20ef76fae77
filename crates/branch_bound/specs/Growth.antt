-- What a growing tree is seen as.
use Rattle.branch_bound.specs.declared.growth.Growth.{Growth, End, Fork'}
use Rattle.branch_bound.specs.Shapes.{Shape, Tipped, Forked}

-- the tree without the places in memory of its parts
abbrev pub shape_of : Growth → Shape
shape_of (End tip) = Tipped tip
shape_of (Fork' v k r _ with _ rest) = Forked v k r (shape_of with) (shape_of rest)
