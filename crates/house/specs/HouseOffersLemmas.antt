use Rattle.book.specs.Gathered.{Fair}
use Rattle.book.specs.Sides.{squared}
use Rattle.house.specs.House.{member_of}
use Rattle.house.specs.declared.unit.Unit.{Unit}

-- a unit's type says what a member owes
pub fair : (u : Unit) → Fair (member_of u)
fair u =
    record {
      there = u.there;
      sided = squared u.side;
      limits = u.limits;
      highest = u.highest;
      readings = u.readings;
      unread = u.unread;
      least = u.least;
      most = u.most;
      moves = u.moves;
    }
